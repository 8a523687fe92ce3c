-- The mesh that a pass leaves.
use Rattle.std.specs.Prelude.{not, List, [], ◌∷◌, ◌++◌, filter, map, if◌then◌else◌}
use Rattle.std.specs.List.{flat_map}
use Rattle.ma_geom.specs.Coordinates.{Coordinates, place_cmp}
use Rattle.ma_cells.specs.Ascending.{ascending_of, has}
use Rattle.ma_cells.specs.Cells.{CellMark, corners_of, mark_cmp}
use Rattle.ma_cells.specs.Stars.{star_of}
use Rattle.ma_cells.specs.Tetrahedron.{Tetrahedron, tet_cmp}
use Rattle.ma_cells.specs.declared.batch.Batch.{Batch}
use Rattle.size_marks.specs.Field.{Field}
use Rattle.cavity_rank.specs.Operations.{Operation}
use Rattle.cavity_rank.specs.declared.verdict.Kind.{Kind}
use Rattle.cavity_collapse.specs.Collapsing.{collapsed, moved_mark}
use Rattle.cavity_swap.specs.Swapping.{swapped}
use Rattle.pass_rules.specs.Changes.{Change, changed_in_turn}
use Rattle.pass_rules.specs.Choosing.{is_taken, winners}
use Rattle.pass_rules.specs.Moves.{legal_operations}

-- the legal operations that are first, of all legal ones, on each tetrahedron of their cavity
abbrev pub chosen : Kind → Field → Batch → List Operation
chosen kind field mesh = winners (legal_operations kind field mesh) mesh.tets

-- what fills a cavity: of a vertex by a collapse, of an edge or a face by a swap
abbrev pub filling_at : List Coordinates → Coordinates → List Tetrahedron → List Tetrahedron
filling_at (a ∷ []) v star = collapsed a v star
filling_at at v star = swapped v star

abbrev pub filling : List Tetrahedron → Operation → List Tetrahedron
filling tets op = filling_at op.at op.apex (star_of op.at tets)

-- a mark that has the vertex, once that is collapsed; any other mark, as others leave it. A swap leaves all marks
abbrev pub changed_at : List Coordinates → Coordinates → CellMark → List CellMark → List CellMark
changed_at (a ∷ []) v mark others = if has place_cmp a (corners_of mark.cell) then moved_mark a v mark else others
changed_at at v mark others = others

-- a mark as the first of these operations leaves it that collapses one of its corners, if there is one
abbrev pub changed_by : List Operation → CellMark → List CellMark
changed_by [] mark = mark ∷ []
changed_by (op ∷ ops) mark = changed_at op.at op.apex mark (changed_by ops mark)

-- a mesh with the cavities of these operations filled, all at once
abbrev pub applied : List Operation → Batch → Batch
applied ops mesh = record {
  tets = ascending_of tet_cmp (filter (λ tet. not (is_taken ops tet)) mesh.tets ++ flat_map (filling mesh.tets) ops);
  marks = ascending_of mark_cmp (flat_map (changed_by ops) mesh.marks);
}

-- the mesh after a pass
abbrev pub passed : Kind → Field → Batch → Batch
passed kind field mesh = applied (chosen kind field mesh) mesh

-- what one operation takes from these tetrahedra, and what it adds
abbrev pub change_of : List Tetrahedron → Operation → Change Tetrahedron
change_of tets op = record { ended = star_of op.at tets; added = filling tets op }

-- marks as each of these operations leaves them, one after the other
abbrev pub marked_in_turn : List Operation → List CellMark → List CellMark
marked_in_turn [] marks = marks
marked_in_turn (op ∷ ops) marks = marked_in_turn ops (ascending_of mark_cmp (flat_map (changed_by (op ∷ [])) marks))

-- a mesh once these operations are made one after the other, each in the place of the cavity that it has in this mesh
abbrev pub made_in_turn : List Operation → Batch → Batch
made_in_turn ops mesh = record {
  tets = changed_in_turn tet_cmp (map (change_of mesh.tets) ops) (ascending_of tet_cmp mesh.tets);
  marks = marked_in_turn ops mesh.marks;
}
