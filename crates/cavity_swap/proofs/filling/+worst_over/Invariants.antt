use Rattle.std.proofs.Common.{length}
use Rattle.cavity_swap.proofs.filling.+worst_over.Given as goal

abbrev pub decreases-worst_over : goal.decreases-worst_over
decreases-worst_over l = length l.tets.now
