-- The law of a pass of collapses.
use Rattle.collapse_passes.proofs.Adapts.{collapse_pass_adapts}
use Rattle.collapse_passes.proofs.laws.collapse_pass_adapts.Goals as goal

pub returns : goal.returns
returns c = collapse_pass_adapts
