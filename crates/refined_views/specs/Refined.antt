-- A labelled mesh that is refined.
use Rattle.std.specs.Prelude.{ℕ, List, map}
use Rattle.std.specs.List.{flat_map}
use Rattle.ma_cells.specs.Ascending.{ascending_of}
use Rattle.ma_cells.specs.Cells.{CellMark, mark_cmp}
use Rattle.ma_cells.specs.Tetrahedron.{Tetrahedron, tet_cmp}
use Rattle.ma_cells.specs.Views.{ghost_cmp}
use Rattle.ma_cells.specs.declared.batch.Batch.{Batch}
use Rattle.size_marks.specs.Field.{Field}
use Rattle.refinement.specs.Refinement.{refine, refined_mark, refined_tet}
use Rattle.ghost_layer.specs.GhostRule.{batch_of}
use Rattle.part_store.specs.Labelled.{LabelledMesh, label_of, labelled, own_of, tet_of}

-- the pieces of a tetrahedron, each with its label
abbrev pub refined_entry : Field → Tetrahedron × ℕ → List (Tetrahedron × ℕ)
refined_entry field entry = labelled (label_of entry) (refined_tet field (tet_of entry))

-- the labelled mesh of all pieces
abbrev pub refined_labelled : Field → LabelledMesh → LabelledMesh
refined_labelled field mesh = record {
  tets = ascending_of ghost_cmp (flat_map (refined_entry field) mesh.tets);
  marks = ascending_of mark_cmp (flat_map (refined_mark field) mesh.marks);
}

-- a labelled mesh without its labels
abbrev pub without_labels : LabelledMesh → Batch
without_labels mesh = record { tets = ascending_of tet_cmp (map tet_of mesh.tets); marks = mesh.marks }

-- what a part carries of a refined mesh: the pieces of all marks that stood on cells of its tetrahedra
abbrev pub carried_pieces : Field → LabelledMesh → ℕ → List CellMark
carried_pieces field mesh part = (refine field (batch_of (own_of mesh part) mesh.marks)).marks
