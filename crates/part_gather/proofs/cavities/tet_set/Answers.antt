use Rattle.ma_cells.proofs.CellOrders.{tet_cmp-IsAntisymmetric}
use Rattle.part_gather.proofs.cavities.tet_set.Goals as goal

pub returns : goal.returns
returns c = c.gather.ensures.is tet_cmp-IsAntisymmetric
