use Rattle.std.proofs.Common.{length}
use Rattle.cavity_swap.proofs.filling.+worst_over_faces.Given as goal

abbrev pub decreases-worst_over_faces : goal.decreases-worst_over_faces
decreases-worst_over_faces l = length l.faces.now
