use Rattle.ma_cells.proofs.CellOrders.{derived_mark_cmp, mark_cmp_total}
use Rattle.letters.proofs.Orders.{same_order, sorted}
use Rattle.letters.proofs.bodies.marks_at.Goals as goal

pub from_vec-requires : goal.from_vec-requires
from_vec-requires c = same_order derived_mark_cmp c.in_ok-marks.marks.items (sorted mark_cmp_total c.in_ok-marks.marks.items c.in_ok-marks.ensures.behind)
