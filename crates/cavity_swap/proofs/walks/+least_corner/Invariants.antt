use Rattle.std.proofs.Common.{length}
use Rattle.cavity_swap.proofs.walks.+least_corner.Given as goal

abbrev pub decreases-least_corner : goal.decreases-least_corner
decreases-least_corner l = length l.edges.now
