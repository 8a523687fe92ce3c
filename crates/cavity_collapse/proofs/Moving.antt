-- A tetrahedron with another place for a corner that it lacks.
use Rattle.std.proofs.Common.{◌≡◌, true, false, not, ◌&&◌, ◌||◌, List, [], ◌∷◌, length, slice_index_or, Option, Some, None, refl, sym, ap, subst, ◌∙◌, arith}
use Rattle.std.specs.Ordering.{eq_by_cmp}
use Rattle.std.proofs.lemmas.Bool.{eqb-true}
use Rattle.ma_geom.specs.Coordinates.{Coordinates, place_cmp}
use Rattle.ma_geom.proofs.PlaceOrder.{place_cmp-IsAntisymmetric, place_cmp_total}
use Rattle.ma_cells.specs.Ascending.{ascending_of, are_distinct, has}
use Rattle.ma_cells.specs.Stars.{besides}
use Rattle.ma_cells.specs.Tetrahedron.{Tetrahedron, are_corners, is_flat, tetrahedron_of}
use Rattle.ma_cells.proofs.Ascents.{is-ascending_of, length-ascending_of, strict_from_ascending}
use Rattle.ma_cells.proofs.Cornered.{distinct-ascending}
use Rattle.ma_cells.proofs.Corners.{corners_rise, corners_span}
use Rattle.ma_cells.proofs.Permutations.{same}
use Rattle.cavity_collapse.proofs.Across.{all_besides}

pub three : (face : List Coordinates) (x y z : Coordinates) → length face ≡ 3 → slice_index_or face 0 x ∷ slice_index_or face 1 y ∷ slice_index_or face 2 z ∷ [] ≡ face
three [] x y z h = absurd (omega (arith, h))
three (p ∷ []) x y z h = absurd (omega (arith, h))
three (p ∷ q ∷ []) x y z h = absurd (omega (arith, h))
three (p ∷ q ∷ r ∷ []) x y z h = refl
three (p ∷ q ∷ r ∷ s ∷ face) x y z h = absurd (omega (arith, h))

five_flat : (places : List Coordinates) → length places ≡ 5 → is_flat places ≡ true
five_flat [] h = refl
five_flat (a ∷ []) h = refl
five_flat (a ∷ b ∷ []) h = refl
five_flat (a ∷ b ∷ c ∷ []) h = refl
five_flat (a ∷ b ∷ c ∷ d ∷ []) h = absurd (omega (arith, h))
five_flat (a ∷ b ∷ c ∷ d ∷ e ∷ places) h = refl

module _ (tet : Tetrahedron) (a v : Coordinates) (are : are_corners tet.corners ≡ true) (four : length tet.corners ≡ 4) (off : has place_cmp a tet.corners ≡ false) where
  -- one of its other corners leaves it as it is
  pub stays : has place_cmp v tet.corners ≡ true → Some tet ≡ tetrahedron_of (v ∷ besides (a ∷ []) tet.corners) tet.phys tet.elem
  stays there =
      let same_set : tet.corners ≡ ascending_of place_cmp (v ∷ tet.corners)
      = is-ascending_of place_cmp_total place_cmp-IsAntisymmetric tet.corners (v ∷ tet.corners) (strict_from_ascending place_cmp_total tet.corners (corners_rise tet.corners are)) (λ q. sym (known q)) in
      rw (all_besides a tet.corners off, ← same_set, corners_span tet.corners are) refl
    where
      known : (q : Coordinates) → (eq_by_cmp place_cmp q v || has place_cmp q tet.corners) ≡ has place_cmp q tet.corners
      known q =
          elim (eq_by_cmp place_cmp q v) as (λ b. eq_by_cmp place_cmp q v ≡ b → (b || has place_cmp q tet.corners) ≡ has place_cmp q tet.corners) [
            | true ↦ λ e. sym (subst (λ p. has place_cmp p tet.corners ≡ true) (sym (same q v e)) there)
            | false ↦ λ _. refl
          ] refl

  -- another place makes five
  pub left_out : has place_cmp v tet.corners ≡ false → ◌≡◌ {A = Option Tetrahedron} None (tetrahedron_of (v ∷ besides (a ∷ []) tet.corners) tet.phys tet.elem)
  left_out gone =
      let five : length (ascending_of place_cmp (v ∷ tet.corners)) ≡ length (v ∷ tet.corners)
      = eqb-true _ _ ((length-ascending_of place_cmp_total (v ∷ tet.corners)).1 ∙ ap (λ b. not b && are_distinct place_cmp tet.corners) gone ∙ distinct-ascending tet.corners (corners_rise tet.corners are)) in
      rw (all_besides a tet.corners off, five_flat (ascending_of place_cmp (v ∷ tet.corners)) (omega (arith, five, four))) refl
