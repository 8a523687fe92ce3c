use Rattle.std.proofs.Common.{length}
use Rattle.cavity_swap.proofs.walks.+next.Given as goal

abbrev pub decreases-next : goal.decreases-next
decreases-next l = length l.edges.now
