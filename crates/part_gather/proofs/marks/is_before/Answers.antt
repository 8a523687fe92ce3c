use Rattle.std.proofs.Common.{ap, ◌∙◌}
use Rattle.std.specs.Ordering.{is_lt}
use Rattle.ma_cells.proofs.CellOrders.{derived_cell_cmp}
use Rattle.ma_cells.specs.Cells.{cell_cmp}
use Rattle.part_gather.proofs.marks.is_before.Goals as goal

pub returns : goal.returns
returns c =
    c.is_lt.ensures ∙ ap is_lt (c.cmp.ensures ∙ derived_cell_cmp c.cell.result c.args.cell.now) ∙ ap (λ cell. is_lt (cell_cmp cell c.args.cell.now)) c.cell.ensures.value
