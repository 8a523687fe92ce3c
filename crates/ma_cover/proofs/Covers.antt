-- Bisection keeps cover, of one tetrahedron and of a list.
use Rattle.std.proofs.Common.{◌≡◌, ◌≢◌, ℕ, ◌+◌, Bool, true, false, cond, ◌&&◌, List, [], ◌∷◌, ◌++◌, refl, sym, ap₂, ◌∙◌}
use Rattle.std.specs.Prelude.{ℤ, pos, map}
use Rattle.std.specs.List.{AllByRecursion, count_by, flat_map, list_all}
use Rattle.std.specs.List.Sorted.{IsPermutation}
use Rattle.std.proofs.lemmas.Bool.{and_parts}
use Rattle.std.proofs.lemmas.List.Sums.{sum_by-append}
use Rattle.ma_geom.specs.Coordinates.{Coordinates}
use Rattle.ma_geom.specs.Rational.{Rational, IsMiddle}
use Rattle.ma_geom.specs.Volume.{vol6}
use Rattle.ma_cells.specs.Bisection.{bisect, bisect_tet, replaced}
use Rattle.ma_cells.specs.Faces.{holds_all}
use Rattle.ma_cells.specs.Tetrahedron.{Tetrahedron, are_corners}
use Rattle.ma_cover.specs.Laws.{BisectionKeepsCover}
use Rattle.ma_cover.specs.Inside.{is_inside}
use Rattle.ma_cover.specs.OnFaces.{IsOffFaces, IsOffFacesOf, IsOffTriangle}
use Rattle.ma_cover.proofs.Exchanges.{inside_in_any_order}
use Rattle.ma_cover.proofs.Halves.{halves_keep_cover}
use Rattle.ma_cells.proofs.Pieces.{has_edge, replaced_first, replaced_second}
use Rattle.ma_cover.proofs.WholeFaces.{off_between}

-- ---- off the faces of each in a list
module _ (p : Rational) where
  all_left : (xs ys : List Tetrahedron) → IsOffFaces p (xs ++ ys) → IsOffFaces p xs
  all_left [] ys h = tt
  all_left (x ∷ xs) ys h = (h.0, all_left xs ys h.1)

  all_right : (xs ys : List Tetrahedron) → IsOffFaces p (xs ++ ys) → IsOffFaces p ys
  all_right [] ys h = h
  all_right (x ∷ xs) ys h = all_right xs ys h.1

-- ---- one tetrahedron
same_count : (f : List Coordinates → Bool) (u v w u' v' w' : List Coordinates) → f u' ≡ f u → f v' ≡ f v → f w' ≡ f w
    → count_by f (u ∷ v ∷ []) ≡ count_by f (w ∷ []) → count_by f (u' ∷ v' ∷ []) ≡ count_by f (w' ∷ [])
same_count f u v w u' v' w' e g h k = rw (e, g, h) k

replaced_count : (m a b c d : Coordinates) (corners : List Coordinates) (p : Rational) → IsPermutation (a ∷ b ∷ c ∷ d ∷ []) corners → IsMiddle m a b → vol6 a b c d ≢ pos 0 → IsOffTriangle m c d p
    → count_by (is_inside p) (replaced a m corners ∷ replaced b m corners ∷ []) ≡ count_by (is_inside p) (corners ∷ [])
replaced_count m a b c d corners p moved middle bent off =
    same_count (is_inside p) (m ∷ b ∷ c ∷ d ∷ []) (a ∷ m ∷ c ∷ d ∷ []) (a ∷ b ∷ c ∷ d ∷ []) (replaced a m corners) (replaced b m corners) corners
    (inside_in_any_order p (m ∷ b ∷ c ∷ d ∷ []) (replaced a m corners) (replaced_first m a b c d corners moved middle bent))
    (inside_in_any_order p (a ∷ m ∷ c ∷ d ∷ []) (replaced b m corners) (replaced_second m a b c d corners moved middle bent))
    (inside_in_any_order p (a ∷ b ∷ c ∷ d ∷ []) corners moved)
    (halves_keep_cover m a b c d p middle bent off)

pub bisect_inside : (p : Rational) (m a b : Coordinates) (corners : List Coordinates) → IsMiddle m a b → a ≢ b → are_corners corners ≡ true
    → AllByRecursion (IsOffFacesOf p) (bisect a b m corners) → count_by (is_inside p) (bisect a b m corners) ≡ count_by (is_inside p) (corners ∷ [])
bisect_inside p m a b corners middle differ are off =
    elim (holds_all corners (a ∷ b ∷ [])) as (λ h. holds_all corners (a ∷ b ∷ []) ≡ h
    → AllByRecursion (IsOffFacesOf p) (cond h (replaced a m corners ∷ replaced b m corners ∷ []) (corners ∷ []))
    → count_by (is_inside p) (cond h (replaced a m corners ∷ replaced b m corners ∷ []) (corners ∷ [])) ≡ count_by (is_inside p) (corners ∷ [])) [
      | true ↦ λ there off.
          let edge = has_edge a b corners differ are there in
          replaced_count m a b edge.c edge.d corners p edge.order middle edge.solid
          (off_between p m b edge.c edge.d (replaced a m corners) (replaced_first m a b edge.c edge.d corners edge.order middle edge.solid) off.0)
      | false ↦ λ _ _. refl
    ] refl off

-- ---- with regions
-- the test of a tetrahedron by its region and a point
abbrev passes : (ℤ → ℤ → Bool) → Rational → Tetrahedron → Bool
passes g p tet = g tet.phys tet.elem && is_inside p tet.corners

abbrev with_corners : Tetrahedron → List Coordinates → Tetrahedron
with_corners tet corners = record tet { corners = corners }

two_count : (b x y z : Bool) → (0 + cond x 1 0) + cond y 1 0 ≡ 0 + cond z 1 0 → (0 + cond (b && x) 1 0) + cond (b && y) 1 0 ≡ 0 + cond (b && z) 1 0
two_count true x y z h = h
two_count false x y z h = refl

module _ (g : ℤ → ℤ → Bool) (p : Rational) where
  two_passes : (tet : Tetrahedron) (xs ys : List Coordinates) → count_by (is_inside p) (xs ∷ ys ∷ []) ≡ count_by (is_inside p) (tet.corners ∷ [])
      → count_by (passes g p) (with_corners tet xs ∷ with_corners tet ys ∷ []) ≡ count_by (passes g p) (tet ∷ [])
  two_passes tet xs ys h = two_count (g tet.phys tet.elem) (is_inside p xs) (is_inside p ys) (is_inside p tet.corners) h

  module _ (m a b : Coordinates) (middle : IsMiddle m a b) (differ : a ≢ b) where
    tet_passes : (tet : Tetrahedron) → are_corners tet.corners ≡ true → IsOffFaces p (bisect_tet a b m tet)
        → count_by (passes g p) (bisect_tet a b m tet) ≡ count_by (passes g p) (tet ∷ [])
    tet_passes tet are off =
        elim (holds_all tet.corners (a ∷ b ∷ [])) as (λ h. holds_all tet.corners (a ∷ b ∷ []) ≡ h
        → IsOffFaces p (map (with_corners tet) (cond h (replaced a m tet.corners ∷ replaced b m tet.corners ∷ []) (tet.corners ∷ [])))
        → count_by (passes g p) (map (with_corners tet) (cond h (replaced a m tet.corners ∷ replaced b m tet.corners ∷ []) (tet.corners ∷ []))) ≡ count_by (passes g p) (tet ∷ [])) [
          | true ↦ λ there off.
              let edge = has_edge a b tet.corners differ are there in
              two_passes tet (replaced a m tet.corners) (replaced b m tet.corners)
              (replaced_count m a b edge.c edge.d tet.corners p edge.order middle edge.solid
              (off_between p m b edge.c edge.d (replaced a m tet.corners) (replaced_first m a b edge.c edge.d tet.corners edge.order middle edge.solid) off.0))
          | false ↦ λ _ _. refl
        ] refl off

    list_passes : (tets : List Tetrahedron) → list_all (λ tet. are_corners tet.corners) tets ≡ true → IsOffFaces p (flat_map (bisect_tet a b m) tets)
        → count_by (passes g p) (flat_map (bisect_tet a b m) tets) ≡ count_by (passes g p) tets
    list_passes [] are off = refl
    list_passes (tet ∷ tets) are off =
        let parts = and_parts (are_corners tet.corners) (list_all (λ tet. are_corners tet.corners) tets) are in
        let first = tet_passes tet parts.0 (all_left p (bisect_tet a b m tet) (flat_map (bisect_tet a b m) tets) off) in
        let rest = list_passes tets parts.1 (all_right p (bisect_tet a b m tet) (flat_map (bisect_tet a b m) tets) off) in
        sum_by-append (λ t. cond (passes g p t) 1 0) (bisect_tet a b m tet) (flat_map (bisect_tet a b m) tets)
        ∙ ap₂ (λ (k n : ℕ). k + n) first rest
        ∙ sym (sum_by-append (λ t. cond (passes g p t) 1 0) (tet ∷ []) tets)

pub bisection_keeps_cover : BisectionKeepsCover
bisection_keeps_cover regions p m a b tets middle differ = list_passes regions p m a b middle differ tets
