use Rattle.overlap_check.proofs.NoOverlap.{no_overlap_covers_once}
use Rattle.overlap_check.proofs.laws.no_overlap_covers_once.Goals as goal

pub returns : goal.returns
returns c = no_overlap_covers_once
