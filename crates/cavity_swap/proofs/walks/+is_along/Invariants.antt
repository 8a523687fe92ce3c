use Rattle.std.proofs.Common.{length}
use Rattle.cavity_swap.proofs.walks.+is_along.Given as goal

abbrev pub decreases-is_along : goal.decreases-is_along
decreases-is_along l = length l.path.now
