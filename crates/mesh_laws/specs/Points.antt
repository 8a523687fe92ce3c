-- Points that are moved a little, off planes and off closed faces.
use Rattle.std.specs.Prelude.{pos, ◌≡◌, ◌≢◌, true, false, List, [], ◌∷◌}
use Rattle.std.specs.List.{AllByRecursion}
use Rattle.ma_geom.specs.Coordinates.{Coordinates}
use Rattle.ma_geom.specs.Lines.{collinear}
use Rattle.ma_geom.specs.Rational.{IsPoint, Rational, side}
use Rattle.ma_cells.specs.Tetrahedron.{Tetrahedron, is_flat}
use Rattle.ma_cover.specs.Inside.{are_alike, is_inside}
use Rattle.ma_cover.specs.OnFaces.{IsOffFacesOf}

-- that p is off the plane of a triangle, which is given by its three corners, unless these are on one line
abbrev pub IsOffPlane : Rational → List Coordinates → Type 0
IsOffPlane p (a ∷ b ∷ c ∷ []) = collinear a b c ≡ false → side a b c p ≢ pos 0
IsOffPlane p _ = Unit {0}

-- that q lies on the side of a triangle on which p lies, if p lies strictly on one
abbrev pub KeepsSide : Rational → Rational → List Coordinates → Type 0
KeepsSide p q (a ∷ b ∷ c ∷ []) = side a b c p ≢ pos 0 → are_alike (side a b c p) (side a b c q) ≡ true
KeepsSide p q _ = Unit {0}

-- that q is where p can be moved, off the plane of a triangle
pub record IsMovedOffPlane (p q : Rational) (triangle : List Coordinates) : Type 0 where
  pub off : IsOffPlane q triangle
  pub kept : KeepsSide p q triangle

-- a point can be moved off the planes of any triangles, and stays on each strict side of them that it has
abbrev pub PointsMoveOffPlanes : Type 0
PointsMoveOffPlanes = (p : Rational) → IsPoint p → (triangles : List (List Coordinates)) → (q : Rational) × IsPoint q × AllByRecursion (IsMovedOffPlane p q) triangles

-- that no tetrahedron of a list is flat
abbrev pub NoneIsFlat : List Tetrahedron → Type 0
NoneIsFlat tets = AllByRecursion (λ tet. is_flat tet.corners ≡ false) tets

-- that q is on no closed face of the tetrahedron with these corners, and within it just if p is, provided that p is on no closed face either
pub record IsMovedOffFaces (p q : Rational) (corners : List Coordinates) : Type 0 where
  pub off : IsOffFacesOf q corners
  pub inside : IsOffFacesOf p corners → is_inside q corners ≡ is_inside p corners

-- a point can be moved off the closed faces of any tetrahedra and off the planes of any triangles. It stays within each tetrahedron or without, but for those on whose faces it was
abbrev pub PointsMoveOffFaces : Type 0
PointsMoveOffFaces = (p : Rational) → IsPoint p → (tets : List Tetrahedron) (triangles : List (List Coordinates)) → NoneIsFlat tets
    → (q : Rational) × IsPoint q × AllByRecursion (λ tet. IsMovedOffFaces p q tet.corners) tets × AllByRecursion (IsMovedOffPlane p q) triangles

-- only what stands for a point is within a tetrahedron
abbrev pub OnlyPointsAreInside : Type 0
OnlyPointsAreInside = (p : Rational) (corners : List Coordinates) → is_inside p corners ≡ true → IsPoint p
