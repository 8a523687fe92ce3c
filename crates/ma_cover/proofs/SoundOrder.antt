-- Soundness doesn't depend on the order in which the tetrahedra are listed.
use Rattle.std.proofs.Common.{◌≡◌, ◌≢◌, ℕ, ◌<◌, ◌≤◌, ◌⊎◌, inl, inr, true, List, length, get_or, refl, sym, ap, subst, ◌∙◌, arith}
use Rattle.std.specs.Prelude.{ℤ, neg_ℤ}
use Rattle.std.specs.List.{AllPairs, list_all, swap}
use Rattle.std.specs.List.Sorted.{IsPermutation}
use Rattle.std.proofs.lemmas.Int.{ints}
use Rattle.std.proofs.lemmas.List.Edits.{length-swap, swapped_from_swap}
use Rattle.std.proofs.lemmas.List.Sorted.{IsPermutation-keeps, IsPermutation-sym, list_any-IsPermutation, sum_by-IsPermutation}
use Rattle.ma_geom.specs.Coordinates.{Coordinates}
use Rattle.ma_geom.specs.Volume.{vol6}
use Rattle.ma_cells.specs.Cells.{CellMark, corners_of}
use Rattle.ma_cells.specs.Faces.{holds_all}
use Rattle.ma_cells.specs.Tetrahedron.{Tetrahedron}
use Rattle.ma_cells.proofs.Passing.{all-permutation}
use Rattle.ma_cover.specs.Inside.{are_alike}
use Rattle.ma_cover.specs.Laws.{SoundInAnyOrder}
use Rattle.ma_cover.specs.OnFaces.{IsOffFacesOf}
use Rattle.ma_cover.specs.Sound.{IsConforming, IsPairedOrMarked, LieOnBothSides}

-- ---- items in another order
-- that R holds of each two items, whichever is listed first
abbrev OfEachTwo : {X : Type 0} → (X → X → Type 0) → List X → Type 0
OfEachTwo {X} R xs = (i j : ℕ) (d : X) → i ≢ j → i < length xs → j < length xs → R (get_or xs i d) (get_or xs j d)

-- where the item at i stood before those at a and b were exchanged
abbrev StoodAt : (a b i k : ℕ) → Type 0
StoodAt a b i k = ((i ≡ a) × (k ≡ b)) ⊎ (((i ≡ b) × (k ≡ a)) ⊎ ((i ≢ a) × (i ≢ b) × (k ≡ i)))

still_two : (a b i j k m : ℕ) → StoodAt a b i k → StoodAt a b j m → i ≢ j → k ≢ m
still_two a b i j k m f g h = grind arith

equal_or_not : (i a : ℕ) → (i ≡ a) ⊎ (i ≢ a)
equal_or_not i a = grind arith

before_or_after : (i j : ℕ) → i ≢ j → (i < j) ⊎ (j < i)
before_or_after i j h = grind arith

module _ {X : Type 0} (R : X → X → Type 0) (turned : (x y : X) → R x y → R y x) where
  of_each_two : (xs : List X) → AllPairs R xs → OfEachTwo R xs
  of_each_two xs h i j d differ below under =
      elim (before_or_after i j differ) [
        | inl before ↦ h i j d before under
        | inr after ↦ turned (get_or xs j d) (get_or xs i d) (h j i d after below)
      ]

  stood : (xs : List X) (a b i : ℕ) (d : X) → a < length xs → b < length xs → i < length xs
      → (k : ℕ) × (k < length xs) × (get_or xs k d ≡ get_or (swap xs a b) i d) × StoodAt a b i k
  stood xs a b i d first second below =
      let moved = swapped_from_swap xs (swap xs a b) a b d first second refl in
      elim (equal_or_not i a) [
        | inl e ↦ (b, second, sym (ap (λ n. get_or (swap xs a b) n d) e ∙ moved.0), inl (e, refl))
        | inr differs ↦ elim (equal_or_not i b) [
          | inl f ↦ (a, first, sym (ap (λ n. get_or (swap xs a b) n d) f ∙ moved.1), inr (inl (f, refl)))
          | inr other ↦ (i, below, sym (moved.2 i differs other), inr (inr (differs, other, refl)))
        ]
      ]

  exchange_keeps : (xs : List X) (a b : ℕ) → a < length xs → b < length xs → OfEachTwo R xs → OfEachTwo R (swap xs a b)
  exchange_keeps xs a b first second h i j d differ below under =
      let long = length-swap xs a b in
      let from = stood xs a b i d first second (subst (λ n. i < n) long below) in
      let from' = stood xs a b j d first second (subst (λ n. j < n) long under) in
      subst (λ x. R x (get_or (swap xs a b) j d)) from.2
      (subst (λ y. R (get_or xs from.0 d) y) from'.2
      (h from.0 from'.0 d (still_two a b i j from.0 from'.0 from.3 from'.3 differ) from.1 from'.1))

  -- what is symmetric and holds of each two items holds of them in any order
  pub AllPairs-IsPermutation : (xs ys : List X) → IsPermutation xs ys → AllPairs R xs → AllPairs R ys
  AllPairs-IsPermutation xs ys moved h i j d before below =
      IsPermutation-keeps xs (OfEachTwo R) (of_each_two xs h) exchange_keeps ys moved i j d (λ e. absurd (omega arith)) (omega arith) below

-- ---- soundness
-- of two tetrahedra, either may be named first
alike_turned : (x y : ℤ) → are_alike x (neg_ℤ y) ≡ true → are_alike y (neg_ℤ x) ≡ true
alike_turned x y h = grind (arith, ints)

sides_turned : (s t : List Coordinates) → LieOnBothSides s t → LieOnBothSides t s
sides_turned s t h u v w d e here there = alike_turned (vol6 u v w e) (vol6 u v w d) (h u v w e d there here)

pub conforming_in_any_order : (tets others : List Tetrahedron) (marks : List CellMark) → IsPermutation tets others → IsConforming tets marks → IsConforming others marks
conforming_in_any_order tets others marks moved h =
    record {
      sides = AllPairs-IsPermutation (λ s t. LieOnBothSides s.corners t.corners) (λ s t. sides_turned s.corners t.corners) tets others moved h.sides;
      faces = λ phys elem face. subst (λ n. IsPairedOrMarked n face marks) (sym (sum_by-IsPermutation _ tets others moved)) (h.faces phys elem face);
      on_cells = ap (λ test. list_all test marks) (λ i mark. list_any-IsPermutation (λ tet. holds_all tet.corners (corners_of mark.cell)) others tets (IsPermutation-sym tets others moved) i) ∙ h.on_cells;
    }

pub sound_in_any_order : SoundInAnyOrder
sound_in_any_order tets others marks moved h =
    record {
      conforming = conforming_in_any_order tets others marks moved h.conforming;
      once = λ p off. subst (λ n. n ≤ 1) (sym (sum_by-IsPermutation _ tets others moved)) (h.once p (all-permutation (λ tet. IsOffFacesOf p tet.corners) others tets (IsPermutation-sym tets others moved) off));
    }
