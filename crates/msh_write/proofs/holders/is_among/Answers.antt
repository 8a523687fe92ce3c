use Rattle.std.proofs.Common.{◌∙◌, ap}
use Rattle.ma_cells.specs.Ascending.{has}
use Rattle.msh_write.proofs.holders.is_among.Goals as goal
use Rattle.ma_cells.proofs.CellOrders.{derived_cells}

pub returns : goal.returns
returns c = c.contains.ensures ∙ ap (λ R. has R c.args.cell.now c.args.cells.now) derived_cells
