use Rattle.std.proofs.Common.{length}
use Rattle.split_templates.proofs.pieces.+cut_seg.Given as goal

abbrev pub decreases-cut_seg : goal.decreases-cut_seg
decreases-cut_seg l = length l.edges.now
