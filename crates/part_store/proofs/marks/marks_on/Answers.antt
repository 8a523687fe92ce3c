use Rattle.std.proofs.Common.{◌∙◌, ◌&&◌, ap, map}
use Rattle.ma_cells.specs.Ascending.{has}
use Rattle.ma_cells.specs.Cells.{cell_cmp}
use Rattle.ma_cells.specs.Incidence.{is_on}
use Rattle.part_store.proofs.FoundMarks.{all_looked_for, found_set}
use Rattle.part_store.proofs.marks.marks_on.Goals as goal

pub returns : goal.returns
returns c =
    c.keep_found.ensures (λ cell. has cell_cmp cell c.cell_set-wanted.result && is_on c.args.tets.now cell)
    (found_set c.in_ok-found_on.field-0.items c.cell_set-found.result c.cell_set-wanted.result c.args.tets.now c.cell_set-found.ensures c.in_ok-found_on.ensures)
    ∙ all_looked_for c.in_ok-near.near.items c.in_ok-cells_of.field-0.items c.cell_set-wanted.result c.args.tets.now (c.in_ok-cells_of.ensures ∙ ap (map (λ mark. mark.cell)) c.as_slice.ensures.value) c.cell_set-wanted.ensures
    ∙ c.in_ok-near.ensures
