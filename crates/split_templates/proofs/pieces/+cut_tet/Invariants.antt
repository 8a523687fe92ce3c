use Rattle.std.proofs.Common.{length}
use Rattle.split_templates.proofs.pieces.+cut_tet.Given as goal

abbrev pub decreases-cut_tet : goal.decreases-cut_tet
decreases-cut_tet l = length l.edges.now
