use Rattle.cavity_rank.proofs.Ranked.{rank_total}
use Rattle.letters.proofs.Orders.{sorted}
use Rattle.letters.proofs.bodies.operations_at.Goals as goal

pub from_vec-requires : goal.from_vec-requires
from_vec-requires c = sorted rank_total c.in_ok-operations.operations.items c.in_ok-operations.ensures.behind
