-- What any number of rounds keeps.
use Rattle.std.specs.Prelude.{ℕ, ◌+◌, ◌≡◌, true}
use Rattle.ma_cells.specs.Grid.{mesh_is_on_grid}
use Rattle.ma_cells.specs.Tetrahedron.{are_tetrahedra}
use Rattle.ma_cells.specs.declared.batch.Batch.{Batch}
use Rattle.mesh_laws.specs.Adapted.{IsAdapted, IsSoundMesh}
use Rattle.one_mesh.specs.Adaptation.{Plan, adapted, after_stage}

-- no tetrahedron is flat afterwards
abbrev pub RoundsAreNotFlat : Type 0
RoundsAreNotFlat = (rounds : ℕ) (plan : Plan) (mesh : Batch) → are_tetrahedra mesh.tets ≡ true → are_tetrahedra (adapted plan rounds mesh).tets ≡ true

-- a round takes a mesh to the next finer grid at most
abbrev pub RoundsHalveTheGrid : Type 0
RoundsHalveTheGrid = (k rounds : ℕ) (plan : Plan) (mesh : Batch) → mesh_is_on_grid (k + rounds) mesh ≡ true → mesh_is_on_grid k (adapted plan rounds mesh) ≡ true

-- after each stage of each round a sound mesh is sound, covers the same and keeps the classification
abbrev pub StagesAdapt : Type 0
StagesAdapt = (round stage : ℕ) (plan : Plan) (mesh : Batch) → IsSoundMesh mesh → IsAdapted mesh (after_stage plan round stage mesh)

-- and so after any number of rounds
abbrev pub RoundsAdapt : Type 0
RoundsAdapt = (rounds : ℕ) (plan : Plan) (mesh : Batch) → IsSoundMesh mesh → IsAdapted mesh (adapted plan rounds mesh)
