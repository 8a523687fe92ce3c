-- The marks of an accepted mesh.
use Rattle.std.specs.Prelude.{ℤ, pos, List, map}
use Rattle.std.specs.declared.cmp.Ordering.{Ordering}
use Rattle.std.specs.Cmp.Lexicographic.{slice_cmp}
use Rattle.std.specs.List.{filter_map, flat_map}
use Rattle.std.specs.Ordering.{int_cmp, ordering_then}
use Rattle.ma_geom.specs.Coordinates.{Coordinates, place_cmp}
use Rattle.ma_cells.specs.Cells.{CellMark, mark_on}
use Rattle.ma_cells.specs.Faces.{faces_of}
use Rattle.ma_cells.specs.Tetrahedron.{Tetrahedron}
use Rattle.ma_cells.specs.declared.cell.Cell.TheVariants.{Tri}
use Rattle.mesh_check.specs.Lone.{lone}

-- the faces of a tetrahedron, each with its region
abbrev pub sides_of : Tetrahedron → List (List Coordinates × (ℤ × ℤ))
sides_of tet = map (λ face. (face, (tet.phys, tet.elem))) (faces_of tet.corners)

-- by face, then region
abbrev pub side_cmp : List Coordinates × (ℤ × ℤ) → List Coordinates × (ℤ × ℤ) → Ordering
side_cmp s t = ordering_then (slice_cmp place_cmp s.0 t.0) (ordering_then (int_cmp s.1.0 t.1.0) (int_cmp s.1.1 t.1.1))

-- the mark of an outer face
abbrev pub outer_mark : List Coordinates → CellMark
outer_mark face = record { cell = Tri face; phys = pos 0; elem = pos 0 }

-- the mark with tag (0, 0) on each face that no other tetrahedron of the same region has
abbrev pub outer_marks : List Tetrahedron → List CellMark
outer_marks tets = filter_map (λ side. mark_on side.0 (pos 0) (pos 0)) (lone side_cmp (flat_map sides_of tets))
