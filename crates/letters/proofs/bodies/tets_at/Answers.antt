use Rattle.ma_cells.proofs.CellOrders.{tet_cmp_total}
use Rattle.letters.proofs.Orders.{sorted}
use Rattle.letters.proofs.bodies.tets_at.Goals as goal

pub from_vec-requires : goal.from_vec-requires
from_vec-requires c = sorted tet_cmp_total c.in_ok-tets.tets.items c.in_ok-tets.ensures.behind
