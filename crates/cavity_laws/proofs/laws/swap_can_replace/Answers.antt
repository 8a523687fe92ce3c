use Rattle.cavity_laws.proofs.Replaced.{swap_can_replace}
use Rattle.cavity_laws.proofs.laws.swap_can_replace.Goals as goal

pub returns : goal.returns
returns c = swap_can_replace
