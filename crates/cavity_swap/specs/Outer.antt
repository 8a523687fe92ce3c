-- The outer faces of a cavity, found once for all places from which it may be filled, and the tests of a swap by them.
use Rattle.std.specs.Prelude.{ℕ, Bool, ◌&&◌, ◌||◌, nat_lt, List, map, Option, Some, None, if◌then◌else◌}
use Rattle.std.specs.List.{flat_map, list_all}
use Rattle.ma_geom.specs.Coordinates.{Coordinates, place_cmp}
use Rattle.ma_geom.specs.Signs.{same_sign, side_of}
use Rattle.ma_cells.specs.Ascending.{has}
use Rattle.ma_cells.specs.Cells.{CellMark}
use Rattle.ma_cells.specs.Stars.{besides}
use Rattle.ma_cells.specs.Tetrahedron.{Tetrahedron}
use Rattle.ma_cells.specs.Worst.{worst}
use Rattle.cavity_swap.specs.Judging.{has_one_region, is_bad, is_bare, outer_faces_are_seen}
use Rattle.cavity_swap.specs.Swapping.{outer_faces, swapped}
use Rattle.cavity_swap.specs.declared.outer.OuterFace.{OuterFace}

-- a face of the tetrahedron with these corners
abbrev pub with_corners : List Coordinates → List Coordinates → OuterFace
with_corners corners face = record { face = face; corners = corners }

-- the faces that one tetrahedron of a cavity alone has, each with the corners of that one
abbrev pub outer_of : List Tetrahedron → List OuterFace
outer_of cavity = flat_map (λ tet. map (with_corners tet.corners) (outer_faces cavity tet)) cavity

-- whether a place has each of these faces or lies on the side of its tetrahedron
abbrev pub sees : List OuterFace → Coordinates → Bool
sees outer v = list_all (λ one. has place_cmp v one.face || list_all (λ d. same_sign (side_of one.face v) (side_of one.face d)) (besides one.face one.corners)) outer

-- whether the tests of a swap pass that don't hang on the place from which the cavity is filled
abbrev pub may_be_taken : List Tetrahedron → List CellMark → (at : List Coordinates) → Bool
may_be_taken cavity marks at = has_one_region cavity && (is_bare marks at cavity && is_bad (worst cavity))

-- the least quality of what fills a cavity from v, if the other tests pass
abbrev pub quality_from : List Tetrahedron → Coordinates → Option ℕ
quality_from cavity v = if outer_faces_are_seen cavity v && nat_lt (worst cavity) (worst (swapped v cavity)) then Some (worst (swapped v cavity)) else None
