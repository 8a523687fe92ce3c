use Rattle.std.proofs.Common.{length}
use Rattle.cavity_swap.proofs.walks.+follow.Given as goal

abbrev pub decreases-follow : goal.decreases-follow
decreases-follow l = length l.fuel.now
