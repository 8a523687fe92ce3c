use Rattle.pass_rules.proofs.Apart.{winners_are_apart}
use Rattle.pass_rules.proofs.laws.winners_are_apart.Goals as goal

pub returns : goal.returns
returns c = winners_are_apart
