-- Swaps: tetrahedra are replaced by those from one place to their outer faces.
use Rattle.std.specs.Prelude.{◌≡◌, ◌==◌, Bool, false, List}
use Rattle.std.specs.List.{AllByRecursion, AllPairs, count_by, flat_map}
use Rattle.ma_geom.specs.Coordinates.{Coordinates, place_cmp}
use Rattle.ma_geom.specs.Lines.{is_flat}
use Rattle.ma_geom.specs.Rational.{Rational}
use Rattle.ma_cells.specs.Ascending.{has}
use Rattle.ma_cover.specs.Inside.{is_inside}
use Rattle.ma_cover.specs.OnFaces.{IsOffFacesOf}
use Rattle.ma_cover.specs.Sound.{LieOnBothSides}
use Rattle.mesh_laws.specs.Parity.{AreSameOddly}
use Rattle.cavity_laws.specs.Balance.{had_by}
use Rattle.cavity_laws.specs.Cavity.{AreOnOneSide, cones, facets_of}
use Rattle.cavity_laws.specs.Filled.{AreReordered}
use Rattle.cavity_laws.specs.Parity.{sorted_faces}

-- whether two of the tetrahedra have a face
abbrev pub is_between : List (List Coordinates) → List Coordinates → Bool
is_between tets face = had_by face tets == 2

-- that tetrahedra can be swapped for those from v to their other faces: none is flat, any two lie on both sides of each face that they share,
-- and v lies strictly on the tetrahedron's side of each other face without v
pub record IsSwappable (v : Coordinates) (tets : List (List Coordinates)) : Type 0 where
  pub solid : AllByRecursion (λ corners. is_flat corners ≡ false) tets
  pub sides : AllPairs LieOnBothSides tets
  pub seen : AllByRecursion (λ x. is_between tets x.face ≡ false → has place_cmp v x.face ≡ false → AreOnOneSide x.face x.across v) (flat_map facets_of tets)

-- a swap has a point within as many tetrahedra after as before, off the closed faces of both
abbrev pub SwapKeepsCover : Type 0
SwapKeepsCover = (p : Rational) (v : Coordinates) (tets filling : List (List Coordinates)) → IsSwappable v tets → AreReordered (cones v (is_between tets) tets) filling
    → AllByRecursion (IsOffFacesOf p) tets → AllByRecursion (IsOffFacesOf p) filling → count_by (is_inside p) filling ≡ count_by (is_inside p) tets

-- and the tetrahedra after it have the same faces an odd number of times as those before
abbrev pub SwapKeepsParity : Type 0
SwapKeepsParity = (v : Coordinates) (tets filling : List (List Coordinates)) → IsSwappable v tets → AreReordered (cones v (is_between tets) tets) filling
    → AreSameOddly (sorted_faces filling) (sorted_faces tets)
