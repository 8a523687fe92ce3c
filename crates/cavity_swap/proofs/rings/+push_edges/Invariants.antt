use Rattle.std.proofs.Common.{length}
use Rattle.cavity_swap.proofs.rings.+push_edges.Given as goal

abbrev pub decreases-push_edges : goal.decreases-push_edges
decreases-push_edges l = length l.cavity.now
