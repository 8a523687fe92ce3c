-- A pass of collapses over a sound mesh.
use Rattle.std.specs.Prelude.{◌≡◌, true, List, IsPermutation}
use Rattle.ma_cells.specs.Ascending.{are_ascending}
use Rattle.ma_cells.specs.Cells.{mark_cmp}
use Rattle.ma_cells.specs.declared.batch.Batch.{Batch}
use Rattle.size_marks.specs.Field.{Field}
use Rattle.cavity_rank.specs.Operations.{Operation}
use Rattle.cavity_rank.specs.declared.verdict.Kind.TheVariants.{Collapse}
use Rattle.mesh_laws.specs.Adapted.{IsAdapted, IsSoundMesh}
use Rattle.pass_rules.specs.Passes.{chosen, made_in_turn, passed}

-- the mesh that a pass of collapses leaves of a sound mesh, whose marks are listed as a set, is adapted from it
abbrev pub CollapsePassAdapts : Type 0
CollapsePassAdapts = (field : Field) (mesh : Batch) → IsSoundMesh mesh → are_ascending mark_cmp mesh.marks ≡ true → IsAdapted mesh (passed Collapse field mesh)

-- it is the mesh that the chosen collapses leave, made one after the other in any order
abbrev pub CollapsesGoInAnyOrder : Type 0
CollapsesGoInAnyOrder = (field : Field) (mesh : Batch) (ops : List Operation) → IsSoundMesh mesh → are_ascending mark_cmp mesh.marks ≡ true
    → IsPermutation (chosen Collapse field mesh) ops → made_in_turn ops mesh ≡ passed Collapse field mesh
