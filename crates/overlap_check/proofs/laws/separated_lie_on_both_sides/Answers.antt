use Rattle.overlap_check.proofs.BothSides.{separated_lie_on_both_sides}
use Rattle.overlap_check.proofs.laws.separated_lie_on_both_sides.Goals as goal

pub returns : goal.returns
returns c = separated_lie_on_both_sides
