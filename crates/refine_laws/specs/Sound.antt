-- Refinement of sound meshes.
use Rattle.ma_cells.specs.declared.batch.Batch.{Batch}
use Rattle.mesh_laws.specs.Adapted.{IsAdapted, IsSoundMesh}
use Rattle.size_marks.specs.Field.{Field}
use Rattle.refinement.specs.Refinement.{refine}

-- a refined mesh is sound if the mesh is
abbrev pub RefinementKeepsSound : Type 0
RefinementKeepsSound = (field : Field) (mesh : Batch) → IsSoundMesh mesh → IsSoundMesh (refine field mesh)

-- it covers the same, too, and keeps the classification
abbrev pub RefinementAdapts : Type 0
RefinementAdapts = (field : Field) (mesh : Batch) → IsSoundMesh mesh → IsAdapted mesh (refine field mesh)
