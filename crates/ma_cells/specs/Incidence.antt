-- Which cells tetrahedra have, and which marks are on them.
use Rattle.std.specs.Prelude.{Bool, List, ◌++◌, map}
use Rattle.std.specs.Cmp.Lexicographic.{slice_cmp}
use Rattle.std.specs.List.{list_any}
use Rattle.std.specs.Ordering.{eq_by_cmp}
use Rattle.ma_geom.specs.Coordinates.{Coordinates, place_cmp}
use Rattle.ma_cells.specs.Cells.{CellMark, corners_of}
use Rattle.ma_cells.specs.Faces.{edges_of, faces_of, holds_all}
use Rattle.ma_cells.specs.Tetrahedron.{Tetrahedron}
use Rattle.ma_cells.specs.declared.cell.Cell.{Cell}
use Rattle.ma_cells.specs.declared.cell.Cell.TheVariants.{Point, Seg, Tri}

-- the points, then the segments, then the triangles of these corners
abbrev pub cells_of : List Coordinates → List Cell
cells_of corners = map Point corners ++ (map Seg (edges_of corners) ++ map Tri (faces_of corners))

-- whether a cell is a corner, an edge or a face of a tetrahedron
abbrev pub is_on : List Tetrahedron → Cell → Bool
is_on tets cell = list_any (λ tet. holds_all tet.corners (corners_of cell)) tets

-- whether a mark, of any tag, is on the cell with these corners
abbrev pub is_marked : List CellMark → List Coordinates → Bool
is_marked marks corners = list_any (λ mark. eq_by_cmp (slice_cmp place_cmp) (corners_of mark.cell) corners) marks
