use Rattle.std.proofs.Common.{◌∙◌, ap}
use Rattle.std.specs.Ordering.{is_eq}
use Rattle.ma_cells.proofs.CellOrders.{derived_cell_cmp}
use Rattle.ma_cells.specs.contracts.cell.CellOrd.TheImpl.Laws as CellLaws
use Rattle.msh_write.proofs.holders.is_same.Goals as goal

pub returns : goal.returns
returns c = c.eq.ensures ∙ CellLaws.matches_eq-law c.args.cell.now c.args.other.now ∙ ap is_eq (derived_cell_cmp c.args.cell.now c.args.other.now)
