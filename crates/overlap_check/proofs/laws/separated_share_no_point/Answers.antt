use Rattle.overlap_check.proofs.InnerPoints.{separated_share_no_point}
use Rattle.overlap_check.proofs.laws.separated_share_no_point.Goals as goal

pub returns : goal.returns
returns c = separated_share_no_point
