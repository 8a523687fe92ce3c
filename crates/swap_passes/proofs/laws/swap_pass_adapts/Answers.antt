use Rattle.swap_passes.proofs.Adapts.{swap_pass_adapts}
use Rattle.swap_passes.proofs.laws.swap_pass_adapts.Goals as goal

pub returns : goal.returns
returns c = swap_pass_adapts
