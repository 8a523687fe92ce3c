use Rattle.overlap_check.proofs.CoverOnce.{separated_cover_once}
use Rattle.overlap_check.proofs.laws.separated_cover_once.Goals as goal

pub returns : goal.returns
returns c = separated_cover_once
