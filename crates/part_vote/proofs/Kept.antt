-- What a test keeps of a list.
use Rattle.std.proofs.Common.{◌≡◌, ℕ, ◌+◌, ◌<◌, Bool, true, false, cond, if◌then◌else◌, not, ◌||◌, List, [], ◌∷◌, ◌++◌, append_assoc, drop, get_or, length, filter, refl, sym, ap, arith, ◌∙◌}
use Rattle.std.specs.Prelude.{◌==◌}
use Rattle.std.specs.List.{list_any}
use Rattle.std.proofs.lemmas.Bool.Decides.{nat_tests}
use Rattle.std.proofs.lemmas.List.{drop_more}

some_item : {X : Type 0} (x : X) (xs : List X) → not (length (x ∷ xs) == 0) ≡ true
some_item x xs = let none : (length (x ∷ xs) == 0) ≡ false = grind (arith, nat_tests) in ap not none

-- it keeps something just if an item passes
pub some_kept : {X : Type 0} (test : X → Bool) (xs : List X) → not (length (filter test xs) == 0) ≡ list_any test xs
some_kept test [] = refl
some_kept test (x ∷ xs) =
    elim (test x) as (λ b. not (length (cond b (x ∷ filter test xs) (filter test xs)) == 0) ≡ (b || list_any test xs)) [
      | true ↦ some_item x (filter test xs)
      | false ↦ some_kept test xs
    ]

-- a step of a walk that keeps what passes
pub kept_step : {X : Type 0} (test : X → Bool) (xs : List X) (i : ℕ) (x : X) (before after all : List X) (passes : Bool) → i < length xs → x ≡ get_or xs i x → passes ≡ test x
    → after ≡ before ++ (if passes then x ∷ [] else []) → before ++ filter test (drop i xs) ≡ all → after ++ filter test (drop (i + 1) xs) ≡ all
kept_step test xs i x before after all passes within at is pushed walked =
    let rest = filter test (drop (i + 1) xs) in
    ap (λ kept. kept ++ rest) pushed ∙ append_assoc before (if passes then x ∷ [] else []) rest ∙ ap (λ b. before ++ ((if b then x ∷ [] else []) ++ rest)) is ∙ ap (λ kept. before ++ kept) (one (test x))
    ∙ ap (λ later. before ++ filter test later) (sym (drop_more xs i x within ∙ ap (λ y. y ∷ drop (i + 1) xs) (sym at))) ∙ walked
  where
    one : (b : Bool) → (if b then x ∷ [] else []) ++ filter test (drop (i + 1) xs) ≡ cond b (x ∷ filter test (drop (i + 1) xs)) (filter test (drop (i + 1) xs))
    one true = refl
    one false = refl
