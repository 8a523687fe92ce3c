-- Lines that are read one after the other without a fault.
use Rattle.std.proofs.Common.{◌≡◌, ℕ, suc, ◌+◌, ◌≤◌, Bool, true, List, [], ◌∷◌, ◌++◌, length, map, refl, ap, append_assoc, arith, length-append, codes, decimal}
use Rattle.std.specs.Prelude.{Result, Ok, Err}
use Rattle.std.specs.List.{enumerate_from, list_all}
use Rattle.std.proofs.lemmas.Bool.{and_parts}
use Rattle.std.proofs.lemmas.List.{append-nil}
use Rattle.msh_read.specs.declared.fault.MshKind.{MshKind}
use Rattle.msh_read.specs.steps.Front.{Front}
use Rattle.msh_read.specs.Reading.{at_line}
use Rattle.msh_read.specs.steps.LinesRead.{after}
use Rattle.msh_read.specs.steps.LineByLine.{step}
use Rattle.msh_read.specs.Trying.{◌>>=◌}
use Rattle.msh_write.specs.Text.{counted_section}

-- the front with these lines behind it
abbrev pub run : Front → List (List ℕ) → Result Front MshKind
run front [] = Ok front
run front (line ∷ lines) = step front line >>= λ next. run next lines

pub run-step : (front next last : Front) (line : List ℕ) (lines : List (List ℕ)) → step front line ≡ Ok next → run next lines ≡ Ok last → run front (line ∷ lines) ≡ Ok last
run-step front next last line lines e h = rw e h

pub run-append : (front middle last : Front) (xs ys : List (List ℕ)) → run front xs ≡ Ok middle → run middle ys ≡ Ok last → run front (xs ++ ys) ≡ Ok last
run-append front middle last [] ys e h = let same : front ≡ middle = cc in rw same h
run-append front middle last (x ∷ xs) ys e h =
    elim (step front x) as (λ r. (r >>= λ next. run next xs) ≡ Ok middle → (r >>= λ next. run next (xs ++ ys)) ≡ Ok last) [
      | Ok next ↦ λ k. run-append next middle last xs ys k h
      | Err kind ↦ λ k. absurd cc
    ] e

-- the lines' numbers don't matter
pub run-after : (front last : Front) (lines : List (List ℕ)) (n : ℕ) → run front lines ≡ Ok last → after front (enumerate_from n lines) ≡ Ok last
run-after front last [] n e = let same : front ≡ last = cc in ap (λ f. Ok f) same
run-after front last (line ∷ lines) n e =
    elim (step front line) as (λ r. (r >>= λ next. run next lines) ≡ Ok last → (at_line n r >>= λ next. after next (enumerate_from (n + 1) lines)) ≡ Ok last) [
      | Ok next ↦ λ k. run-after next last lines (n + 1) k
      | Err kind ↦ λ k. absurd cc
    ] e

-- a section that counts its lines
pub run-section : (name : List ℕ) (lines : List (List ℕ)) (front begun counted read last : Front) → step front (codes "$" ++ name) ≡ Ok begun → step begun (decimal (length lines)) ≡ Ok counted
    → run counted lines ≡ Ok read → step read (codes "$End" ++ name) ≡ Ok last → run front (counted_section name lines) ≡ Ok last
run-section name lines front begun counted read last header count body end =
    run-step front begun last (codes "$" ++ name) (decimal (length lines) ∷ (lines ++ (codes "$End" ++ name) ∷ [])) header
    (run-step begun counted last (decimal (length lines)) (lines ++ (codes "$End" ++ name) ∷ []) count
    (run-append counted read last lines ((codes "$End" ++ name) ∷ []) body (run-step read last last (codes "$End" ++ name) [] end refl)))

-- Entries one by one, where a front is known by the entries that it has and the number of those that are left.
module _ {X : Type 0} (line : ℕ → X → List ℕ) (front : List X → ℕ → Front) (good : X → Bool) (most : ℕ)
    (steps : (done : List X) (x : X) (left : ℕ) → length done + 1 ≤ most → good x ≡ true → step (front done (suc left)) (line (length done + 1) x) ≡ Ok (front (done ++ x ∷ []) left)) where
  run-entries : (done rest : List X) (left : ℕ) → length done + length rest ≤ most → list_all good rest ≡ true
      → run (front done (length rest + left)) (map (λ e. line e.0 e.1) (enumerate_from (length done + 1) rest)) ≡ Ok (front (done ++ rest) left)
  run-entries done [] left few all =
      let none : 0 + left ≡ left = omega arith in
      rw (none, append-nil done) refl
  run-entries done (x ∷ rest) left few all =
      let parts = and_parts (good x) (list_all good rest) all in
      let more : suc (length rest) + left ≡ suc (length rest + left) = omega arith in
      let long : length (done ++ x ∷ []) ≡ length done + 1 = length-append done (x ∷ []) in
      let next : run (front (done ++ x ∷ []) (length rest + left)) (map (λ e. line e.0 e.1) (enumerate_from (length (done ++ x ∷ []) + 1) rest)) ≡ Ok (front ((done ++ x ∷ []) ++ rest) left) =
      run-entries (done ++ x ∷ []) rest left (omega arith) parts.1 in
      rw (more, steps done x (length rest + left) (omega arith) parts.0) (rw (long, append_assoc done (x ∷ []) rest) at next)

  pub run-all : (items : List X) (left : ℕ) → length items ≤ most → list_all good items ≡ true → run (front [] (length items + left)) (map (λ e. line e.0 e.1) (enumerate_from 1 items)) ≡ Ok (front items left)
  run-all items left few all = run-entries [] items left (omega arith) all
