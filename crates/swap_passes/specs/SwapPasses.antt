-- A pass of swaps over a mesh.
use Rattle.std.specs.Prelude.{◌≡◌, true, List, IsPermutation}
use Rattle.ma_cells.specs.Ascending.{are_ascending}
use Rattle.ma_cells.specs.Cells.{mark_cmp}
use Rattle.ma_cells.specs.declared.batch.Batch.{Batch}
use Rattle.size_marks.specs.Field.{Field}
use Rattle.cavity_rank.specs.Operations.{Operation}
use Rattle.cavity_rank.specs.declared.verdict.Kind.TheVariants.{Swap}
use Rattle.mesh_laws.specs.Adapted.{IsAdapted, IsSoundMesh}
use Rattle.pass_rules.specs.Passes.{chosen, made_in_turn, passed}

-- a pass of swaps over a sound mesh leaves a sound mesh, with the same cover of each region and the same classification, in whatever order its tetrahedra and marks are listed
abbrev pub SwapPassAdapts : Type 0
SwapPassAdapts = (field : Field) (mesh : Batch) → IsSoundMesh mesh → IsAdapted mesh (passed Swap field mesh)

-- the chosen swaps, made one after the other in any order, leave the mesh that they leave all at once.
-- That marks ascend is asked for, since a pass lists them so, also where no swap is chosen
abbrev pub SwapsGoInAnyOrder : Type 0
SwapsGoInAnyOrder = (field : Field) (mesh : Batch) (ops : List Operation) → IsSoundMesh mesh → are_ascending mark_cmp mesh.marks ≡ true
    → IsPermutation (chosen Swap field mesh) ops → made_in_turn ops mesh ≡ passed Swap field mesh
