-- Meshes: tetrahedra in an order of their own, and a set of marks.
use Rattle.std.specs.Prelude.{ℕ, Bool, List, map}
use Rattle.std.specs.Cmp.Lexicographic.{slice_cmp}
use Rattle.ma_geom.specs.Coordinates.{Coordinates, place_cmp}
use Rattle.ma_cells.specs.Ascending.{are_distinct}
use Rattle.ma_cells.specs.Cells.{CellMark}
use Rattle.ma_cells.specs.Tetrahedron.{Tetrahedron}

-- tetrahedra and marks, and how many marks were dropped as loose
pub record MarkedMesh : Type 0 where
  pub tets : List Tetrahedron
  pub marks : List CellMark
  pub loose : ℕ

abbrev pub corner_sets : List Tetrahedron → List (List Coordinates)
corner_sets tets = map (λ tet. tet.corners) tets

-- whether no two tetrahedra have the same corners
abbrev pub are_listed_once : List Tetrahedron → Bool
are_listed_once tets = are_distinct (slice_cmp place_cmp) (corner_sets tets)
