-- Refinement: each cell of a mesh is bisected at its own long edges, the longest first.
use Rattle.std.specs.Prelude.{List, [], ◌∷◌, map, filter, if◌then◌else◌}
use Rattle.std.specs.List.{flat_map}
use Rattle.ma_geom.specs.Coordinates.{Coordinates}
use Rattle.ma_cells.specs.Ascending.{ascending_of}
use Rattle.ma_cells.specs.Cells.{CellMark, mark_cmp}
use Rattle.ma_cells.specs.Faces.{edges_of}
use Rattle.ma_cells.specs.Tetrahedron.{Tetrahedron, tet_cmp}
use Rattle.ma_cells.specs.declared.batch.Batch.{Batch}
use Rattle.ma_cells.specs.declared.cell.Cell.{Cell}
use Rattle.ma_cells.specs.declared.cell.Cell.TheVariants.{Point, Seg, Tri}
use Rattle.size_marks.specs.Field.{Field}
use Rattle.split_templates.specs.Edges.{is_long_edge}
use Rattle.split_templates.specs.Pieces.{is_straight, pieces_of, tets_of}

-- the edges of a cell with these corners that are long
abbrev pub long_edges : Field → List Coordinates → List (List Coordinates)
long_edges field corners = filter (is_long_edge field) (edges_of corners)

-- the pieces of a tetrahedron, each with its region
abbrev pub refined_tet : Field → Tetrahedron → List Tetrahedron
refined_tet field tet = tets_of (long_edges field tet.corners) tet

-- the pieces of a cell of less than three dimensions. A triangle on one line, which is no face of a tetrahedron, stays
abbrev pub refined_cell : Field → Cell → List Cell
refined_cell field (Point p) = Point p ∷ []
refined_cell field (Seg s) = map Seg (pieces_of (long_edges field s) s)
refined_cell field (Tri t) = if is_straight t then Tri t ∷ [] else map Tri (pieces_of (long_edges field t) t)

-- the pieces of a mark, each with its tag
abbrev pub refined_mark : Field → CellMark → List CellMark
refined_mark field mark = map (λ cell. record mark { cell = cell }) (refined_cell field mark.cell)

-- the mesh of all pieces
abbrev pub refine : Field → Batch → Batch
refine field mesh = record {
  tets = ascending_of tet_cmp (flat_map (refined_tet field) mesh.tets);
  marks = ascending_of mark_cmp (flat_map (refined_mark field) mesh.marks);
}
