use Rattle.ma_cells.proofs.CellOrders.{ghost_cmp-IsAntisymmetric}
use Rattle.part_store.proofs.store.ghost_set.Goals as goal

pub returns : goal.returns
returns c = c.gather.ensures.is ghost_cmp-IsAntisymmetric
