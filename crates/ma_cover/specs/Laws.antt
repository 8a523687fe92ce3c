-- What holds of all points and tetrahedra. Corners are places without bound.
use Rattle.std.specs.Prelude.{ℤ, ◌≡◌, ◌≢◌, Bool, true, List, IsPermutation}
use Rattle.std.specs.List.{AllByRecursion, flat_map, list_all}
use Rattle.ma_geom.specs.Coordinates.{Coordinates}
use Rattle.ma_geom.specs.Rational.{Rational, IsMiddle}
use Rattle.ma_cells.specs.Bisection.{bisect, bisect_tet}
use Rattle.ma_cells.specs.Cells.{CellMark}
use Rattle.ma_cells.specs.Tetrahedron.{Tetrahedron, are_corners, are_tetrahedra}
use Rattle.ma_cover.specs.Cover.{cover_by}
use Rattle.ma_cover.specs.Inside.{is_inside}
use Rattle.ma_cover.specs.Located.{IsLocated}
use Rattle.ma_cover.specs.OnFaces.{IsOffFaces, IsOffFacesOf}
use Rattle.ma_cover.specs.Sound.{IsSound}
use Rattle.ma_cover.specs.declared.locations.Found.{Found}

-- a point is within a tetrahedron whatever the order in which its corners are listed
abbrev pub OrderOfCornersIsFree : Type 0
OrderOfCornersIsFree = (p : Rational) (corners others : List Coordinates) → IsPermutation corners others → is_inside p others ≡ is_inside p corners

-- what is within a tetrahedron is on none of its closed faces
abbrev pub InsideIsOffFaces : Type 0
InsideIsOffFaces = (p : Rational) (corners : List Coordinates) → is_inside p corners ≡ true → IsOffFacesOf p corners

-- what bisecting a tetrahedron at a middle gives is tetrahedra, none of them flat
abbrev pub PiecesAreTetrahedra : Type 0
PiecesAreTetrahedra = (m a b : Coordinates) (corners : List Coordinates) → IsMiddle m a b → a ≢ b → are_corners corners ≡ true
    → list_all are_corners (bisect a b m corners) ≡ true

-- where all tetrahedra of a list are bisected at an edge, the cover of whichever regions stays, off the closed faces of what they give
abbrev pub BisectionKeepsCover : Type 0
BisectionKeepsCover = (regions : ℤ → ℤ → Bool) (p : Rational) (m a b : Coordinates) (tets : List Tetrahedron) → IsMiddle m a b → a ≢ b
    → are_tetrahedra tets ≡ true → IsOffFaces p (flat_map (bisect_tet a b m) tets)
    → cover_by regions p (flat_map (bisect_tet a b m) tets) ≡ cover_by regions p tets

-- what is off the closed faces of the pieces of a tetrahedron is off its own
abbrev pub OffPiecesIsOffWhole : Type 0
OffPiecesIsOffWhole = (p : Rational) (m a b : Coordinates) (corners : List Coordinates) → IsMiddle m a b → a ≢ b → are_corners corners ≡ true
    → AllByRecursion (IsOffFacesOf p) (bisect a b m corners) → IsOffFacesOf p corners

-- a mesh is sound in whatever order its tetrahedra are listed
abbrev pub SoundInAnyOrder : Type 0
SoundInAnyOrder = (tets others : List Tetrahedron) (marks : List CellMark) → IsPermutation tets others → IsSound tets marks → IsSound others marks

-- one thing is found of a point
abbrev pub LocationIsOne : Type 0
LocationIsOne = (tets : List Tetrahedron) (p : Rational) (found other : Found) → IsLocated tets p found → IsLocated tets p other → found ≡ other
