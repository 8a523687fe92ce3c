use Rattle.ma_cells.proofs.CellOrders.{tet_cmp_total}
use Rattle.letters.proofs.Orders.{from_sorted}
use Rattle.letters.proofs.encoding.put_tets.Goals as goal

pub put_list-requires : goal.put_list-requires
put_list-requires c = from_sorted tet_cmp_total c.as_slice.result.now c.as_slice.ensures.rises
