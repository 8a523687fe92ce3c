-- The least start pins the least pair.
use Rattle.std.proofs.Common.{◌≡◌, ℕ, zero, suc, ◌<◌, ◌≤◌, ◌+◌, inl, inr, Bool, true, false, cond, List, [], ◌∷◌, drop, length, get_or, refl, sym, ap, ◌∙◌, arith}
use Rattle.std.specs.Prelude.{not, ◌&&◌, nat_lt, Option, None, Some}
use Rattle.std.specs.List.{position, position_or_len}
use Rattle.std.specs.Option.{option_map, option_or}
use Rattle.std.proofs.lemmas.Bool.Decides.{nat_tests}
use Rattle.std.proofs.lemmas.List.{drop_all, get_or_default}
use Rattle.std.proofs.lemmas.List.Quantifiers.{position-Some}
use Rattle.ma_cells.specs.Tetrahedron.{Tetrahedron}
use Rattle.overlap_check.specs.Overlap.{are_separated, first_overlap_of, further, overlap}
use Rattle.overlap_check.specs.steps.Pairs.{IsStart, are_overlapping, corners_at, pair_from}
use Rattle.overlap_check.proofs.AtPlaces.{overlap_is, overlap_tells}

-- ---- the first place that passes
passed_by : {X : Type 0} (p : X → Bool) (xs : List X) (j : ℕ) (d : X) → j < length xs → p (get_or xs j d) ≡ true → position_or_len p xs < length xs
passed_by p [] j d within passes = absurd (omega arith)
passed_by p (x ∷ xs) zero d within passes = let here : position_or_len p (x ∷ xs) ≡ 0 = ap (λ b. cond (not b) (1 + position_or_len p xs) 0) passes in omega arith
passed_by p (x ∷ xs) (suc j) d within passes = later (p x) (passed_by p xs j d (omega arith) passes)
  where
    later : (b : Bool) → position_or_len p xs < length xs → cond (not b) (1 + position_or_len p xs) 0 < length (x ∷ xs)
    later true h = omega arith
    later false h = omega arith

found : {X : Type 0} (p : X → Bool) (xs : List X) (j : ℕ) (d : X) → j < length xs → p (get_or xs j d) ≡ true → position p xs ≡ Some (position_or_len p xs)
found p xs j d within passes =
    let below = passed_by p xs j d within passes in
    let test : nat_lt (position_or_len p xs) (length xs) ≡ true = grind (arith, nat_tests) in
    ap (λ b. cond b (Some (position_or_len p xs)) None) test

-- ---- pairs in a list with one more in front
pair_further : (k : ℕ) (tets : List Tetrahedron) → pair_from (suc k) tets ≡ option_map further (pair_from k tets)
pair_further k [] = refl
pair_further k (t ∷ ts) = each (position (overlap t) ts)
  where
    each : (o : Option ℕ) → option_map (λ j. (suc k, suc k + 1 + j)) o ≡ option_map further (option_map (λ j. (k, k + 1 + j)) o)
    each None = refl
    each (Some j) = let e : suc k + 1 + j ≡ suc (k + 1 + j) = omega arith in λ i. Some (suc k, e i)

overlap_further : (t : Tetrahedron) (ts : List Tetrahedron) (i j : ℕ) → are_overlapping (t ∷ ts) (suc i) (suc j) ≡ are_overlapping ts i j
unfolding are_overlapping
overlap_further t ts i j =
    let first : nat_lt (suc i) (suc j) ≡ nat_lt i j = grind (arith, nat_tests) in
    let second : nat_lt (suc j) (length (t ∷ ts)) ≡ nat_lt j (length ts) = grind (arith, nat_tests) in
    λ k. first k && (second k && not (are_separated (corners_at ts i) (corners_at ts j)))

-- the tetrahedron in front and a later one
overlap_front : (t : Tetrahedron) (ts : List Tetrahedron) (i : ℕ) → i < length ts → overlap t (get_or ts i t) ≡ are_overlapping (t ∷ ts) 0 (suc i)
overlap_front t ts i within = overlap_is (t ∷ ts) 0 (suc i) t (get_or ts i t) _ (omega arith) (omega arith) refl (get_or_default ts i t (get_or ts i t) within) refl

no_partner : (t : Tetrahedron) (ts : List Tetrahedron) (k : ℕ) → ((i j : ℕ) → are_overlapping (t ∷ ts) i j ≡ true → suc k ≤ i) → (o : Option ℕ) → position (overlap t) ts ≡ o → o ≡ None
no_partner t ts k least None e = refl
no_partner t ts k least (Some i) e =
    let told = position-Some (overlap t) ts i t e in
    let bound = least 0 (suc i) (sym (overlap_front t ts i told.0) ∙ told.1) in
    absurd (omega arith)

pub pinned : (tets : List Tetrahedron) (k : ℕ) → IsStart tets k → ((i j : ℕ) → are_overlapping tets i j ≡ true → k ≤ i) → pair_from k (drop k tets) ≡ first_overlap_of tets
pinned [] k start least = ap (pair_from k) (drop_all k [] (omega arith))
pinned (t ∷ ts) zero (inl ends) least = absurd (omega arith)
pinned (t ∷ ts) zero (inr (zero, h)) least = let told = overlap_tells (t ∷ ts) 0 0 h in absurd (omega arith)
pinned (t ∷ ts) zero (inr (suc j, h)) least =
    let told = overlap_tells (t ∷ ts) 0 (suc j) h in
    let within : j < length ts = omega arith in
    let at = found (overlap t) ts j t within (overlap_front t ts j within ∙ h) in
    let e : 0 + 1 + position_or_len (overlap t) ts ≡ suc (position_or_len (overlap t) ts) = omega arith in
    ap (option_map (λ (i : ℕ). (0, 0 + 1 + i))) at ∙ (λ i. Some (0, e i)) ∙ sym (ap (λ o. option_or (option_map (λ (i : ℕ). (0, suc i)) o) (option_map further (first_overlap_of ts))) at)
pinned (t ∷ ts) (suc k) start least =
    pair_further k (drop k ts)
    ∙ ap (option_map further) (pinned ts k (start_of start) (λ i j h. let bound = least (suc i) (suc j) (overlap_further t ts i j ∙ h) in omega arith))
    ∙ sym (ap (λ o. option_or (option_map (λ (i : ℕ). (0, suc i)) o) (option_map further (first_overlap_of ts))) (no_partner t ts k least (position (overlap t) ts) refl))
  where
    start_of : IsStart (t ∷ ts) (suc k) → IsStart ts k
    start_of (inl ends) = inl (omega arith)
    start_of (inr (zero, h)) = let told = overlap_tells (t ∷ ts) (suc k) 0 h in absurd (omega arith)
    start_of (inr (suc j, h)) = inr (j, sym (overlap_further t ts k j) ∙ h)
