use Rattle.pass_rules.proofs.Apart.{parts_decide}
use Rattle.pass_rules.proofs.laws.parts_decide.Goals as goal

pub returns : goal.returns
returns c = parts_decide
