-- The mesh that operations leave, by its tetrahedra and its marks.
use Rattle.std.proofs.Common.{◌≡◌, not, List, ◌++◌, filter, IfOk, Result, Ok, Err, ap, ◌∙◌}
use Rattle.std.specs.List.{flat_map}
use Rattle.ma_cells.specs.Ascending.{ascending_of}
use Rattle.ma_cells.specs.Cells.{CellMark, mark_cmp}
use Rattle.ma_cells.specs.Tetrahedron.{Tetrahedron, tet_cmp}
use Rattle.ma_cells.specs.declared.batch.Batch.{Batch}
use Rattle.cavity_rank.specs.Operations.{Operation}
use Rattle.pass_rules.specs.Choosing.{is_taken}
use Rattle.pass_rules.specs.Passes.{applied, changed_by, filling}

pub applied_is : {E : Type 0} (ops : List Operation) (mesh : Batch) (tets : List Tetrahedron) (marks : List CellMark) (made : Result Batch E)
    → tets ≡ filter (λ tet. not (is_taken ops tet)) mesh.tets ++ flat_map (filling mesh.tets) ops → marks ≡ flat_map (changed_by ops) mesh.marks
    → IfOk made (λ batch. batch.tets ≡ ascending_of tet_cmp tets) → IfOk made (λ batch. batch.marks ≡ ascending_of mark_cmp marks) → IfOk made (λ batch. batch ≡ applied ops mesh)
applied_is ops mesh tets marks (Ok batch) here there some others =
    λ i. record { tets = (some ∙ ap (ascending_of tet_cmp) here) i; marks = (others ∙ ap (ascending_of mark_cmp) there) i }
applied_is ops mesh tets marks (Err fault) here there some others = tt
