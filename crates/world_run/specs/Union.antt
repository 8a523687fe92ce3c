-- All parts of a run together.
use Rattle.std.specs.Prelude.{◌≡◌, List, length}
use Rattle.std.specs.List.{flat_map}
use Rattle.ma_cells.specs.Ascending.{ascending_of}
use Rattle.ma_cells.specs.Cells.{mark_cmp}
use Rattle.ma_cells.specs.Tetrahedron.{tet_cmp}
use Rattle.ma_cells.specs.declared.batch.Batch.{Batch}
use Rattle.part_core.specs.Parts.{PartState}
use Rattle.part_rules.specs.Owed.{IsLabelled}
use Rattle.part_store.specs.Labelled.{LabelledMesh}
use Rattle.part_store.specs.Stores.{view_in}
use Rattle.refined_views.specs.Refined.{without_labels}
use Rattle.view_laws.specs.Views.{owned_marks}
use Rattle.world_run.specs.Rounds.{SeeMesh}

-- all own tetrahedra of the parts, and the marks on cells of a part's own tetrahedra that the part owns, as sets
abbrev pub union_in : List PartState → Batch
union_in parts = record {
  tets = ascending_of tet_cmp (flat_map (λ part. part.standing.holds.own) parts);
  marks = ascending_of mark_cmp (flat_map (λ part. owned_marks (view_in part.standing.holds)) parts);
}

-- where each of all parts sees its own of a labelled mesh, and what lies beside it, they have together the mesh without its labels
abbrev pub PartsMakeMesh : Type 0
PartsMakeMesh = (mesh : LabelledMesh) (parts : List PartState) → IsLabelled (length parts) mesh → SeeMesh mesh parts → union_in parts ≡ without_labels mesh
