-- Tetrahedra as sets of four places, with a region.
use Rattle.std.specs.Prelude.{ℤ, Bool, not, ◌&&◌, if◌then◌else◌, List, Option, Some, None}
use Rattle.std.specs.declared.cmp.Ordering.{Ordering}
use Rattle.std.specs.Cmp.Lexicographic.{slice_cmp}
use Rattle.std.specs.List.{list_all}
use Rattle.std.specs.Ordering.{int_cmp, ordering_then}
use Rattle.ma_geom.specs.Coordinates.{Coordinates, place_cmp}
pub use Rattle.ma_geom.specs.Lines.{is_flat}
use Rattle.ma_cells.specs.Ascending.{are_ascending, ascending_of}

-- the corners, and the region (phys, elem)
pub record Tetrahedron : Type 0 where
  pub corners : List Coordinates
  pub phys : ℤ
  pub elem : ℤ

-- whether these are the corners of a tetrahedron, as a tetrahedron keeps them
abbrev pub are_corners : List Coordinates → Bool
are_corners places = are_ascending place_cmp places && not (is_flat places)

-- whether the corners of each are those of a tetrahedron: four that ascend and aren't flat
abbrev pub are_tetrahedra : List Tetrahedron → Bool
are_tetrahedra tets = list_all (λ tet. are_corners tet.corners) tets

-- the tetrahedron with these corners, given in any order, unless it is flat
abbrev pub tetrahedron_of : List Coordinates → ℤ → ℤ → Option Tetrahedron
tetrahedron_of places phys elem =
    let corners = ascending_of place_cmp places in
    if is_flat corners then None else Some (record { corners = corners; phys = phys; elem = elem })

-- by corners, then phys, then elem
abbrev pub tet_cmp : Tetrahedron → Tetrahedron → Ordering
tet_cmp t u = ordering_then (slice_cmp place_cmp t.corners u.corners) (ordering_then (int_cmp t.phys u.phys) (int_cmp t.elem u.elem))
