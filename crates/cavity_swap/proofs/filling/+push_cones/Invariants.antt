use Rattle.std.proofs.Common.{length}
use Rattle.cavity_swap.proofs.filling.+push_cones.Given as goal

abbrev pub decreases-push_cones : goal.decreases-push_cones
decreases-push_cones l = length l.faces.now
