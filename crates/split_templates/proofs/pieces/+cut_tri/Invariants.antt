use Rattle.std.proofs.Common.{length}
use Rattle.split_templates.proofs.pieces.+cut_tri.Given as goal

abbrev pub decreases-cut_tri : goal.decreases-cut_tri
decreases-cut_tri l = length l.edges.now
