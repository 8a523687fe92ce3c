use Rattle.std.proofs.Common.{length}
use Rattle.cavity_rank.proofs.operation.+see_range.Given as goal

abbrev pub decreases-see_range : goal.decreases-see_range
decreases-see_range l = length l.places.now
