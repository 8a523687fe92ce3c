-- Tetrahedra by their places in a list, and whether they overlap.
use Rattle.std.proofs.Common.{◌≡◌, ◌<◌, ◌≤◌, get_or, inl, inr, ℕ, Bool, true, false, List, [], length, refl, sym, ap, ◌∙◌, arith}
use Rattle.std.specs.Prelude.{not, ◌&&◌, nat_lt}
use Rattle.std.proofs.lemmas.Bool.{and_parts, not-true}
use Rattle.std.proofs.lemmas.Bool.Decides.{nat_tests}
use Rattle.std.proofs.lemmas.List.{get_or-map}
use Rattle.ma_cells.specs.Tetrahedron.{Tetrahedron}
use Rattle.overlap_check.specs.Overlap.{are_separated}
use Rattle.overlap_check.specs.steps.Pairs.{IsStart, are_overlapping, corners_at}

corners_are : (tets : List Tetrahedron) (i : ℕ) (t : Tetrahedron) → i < length tets → t ≡ get_or tets i t → corners_at tets i ≡ t.corners
corners_are tets i t within is = get_or-map (λ (u : Tetrahedron). u.corners) tets i t [] within ∙ ap (λ (u : Tetrahedron). u.corners) (sym is)

-- what the test of two places is
pub overlap_is : (tets : List Tetrahedron) (i j : ℕ) (t u : Tetrahedron) (b : Bool) → i < j → j < length tets → t ≡ get_or tets i t → u ≡ get_or tets j u
    → b ≡ are_separated t.corners u.corners → not b ≡ are_overlapping tets i j
unfolding are_overlapping
overlap_is tets i j t u b before within first second e =
    let low : i < length tets = omega arith in
    let here : nat_lt i j ≡ true = grind (arith, nat_tests) in
    let there : nat_lt j (length tets) ≡ true = grind (arith, nat_tests) in
    ap not (e ∙ (λ k. are_separated (sym (corners_are tets i t low first) k) (sym (corners_are tets j u within second) k)))
    ∙ sym (λ k. here k && (there k && not (are_separated (corners_at tets i) (corners_at tets j))))

pub below : (m n : ℕ) → nat_lt m n ≡ true → m < n
below m n h = grind (arith, nat_tests)

-- what it tells
pub overlap_tells : (tets : List Tetrahedron) (i j : ℕ) → are_overlapping tets i j ≡ true → (i < j) × (j < length tets) × (are_separated (corners_at tets i) (corners_at tets j) ≡ false)
unfolding are_overlapping
overlap_tells tets i j h =
    let outer = and_parts (nat_lt i j) (nat_lt j (length tets) && not (are_separated (corners_at tets i) (corners_at tets j))) h in
    let inner = and_parts (nat_lt j (length tets)) (not (are_separated (corners_at tets i) (corners_at tets j))) outer.1 in
    (below i j outer.0, below j (length tets) inner.0, not-true (are_separated (corners_at tets i) (corners_at tets j)) inner.1)

pub differ : (b : Bool) → b ≡ true → b ≡ false → ⊥
differ b h k = cc

if_not_true : (b : Bool) → (b ≡ true → b ≡ false) → b ≡ false
if_not_true true f = f refl
if_not_true false f = refl

pub if_not_false : (b : Bool) → (b ≡ false → ⊥) → b ≡ true
if_not_false true f = refl
if_not_false false f = absurd (f refl)

-- a pair that doesn't overlap
pub none_before : (tets : List Tetrahedron) (i j : ℕ) → j ≤ i → are_overlapping tets i j ≡ false
none_before tets i j after = if_not_true (are_overlapping tets i j) (λ h. let told = overlap_tells tets i j h in absurd (omega arith))

pub apart_at : (tets : List Tetrahedron) (i j : ℕ) → are_separated (corners_at tets i) (corners_at tets j) ≡ true → are_overlapping tets i j ≡ false
apart_at tets i j apart = if_not_true (are_overlapping tets i j) (λ h. let told = overlap_tells tets i j h in absurd (differ _ apart told.2))

pub start_within : (tets : List Tetrahedron) (k : ℕ) → IsStart tets k → k ≤ length tets
start_within tets k (inl ends) = omega arith
start_within tets k (inr h) = let told = overlap_tells tets k h.0 h.1 in omega arith
