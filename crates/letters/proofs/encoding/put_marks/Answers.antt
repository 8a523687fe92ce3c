use Rattle.std.proofs.Common.{sym}
use Rattle.ma_cells.proofs.CellOrders.{derived_mark_cmp, mark_cmp_total}
use Rattle.letters.proofs.Orders.{from_sorted, same_order}
use Rattle.letters.proofs.encoding.put_marks.Goals as goal

pub put_list-requires : goal.put_list-requires
put_list-requires c = from_sorted mark_cmp_total c.as_slice.result.now (same_order (sym derived_mark_cmp) c.as_slice.result.now c.as_slice.ensures.rises)
