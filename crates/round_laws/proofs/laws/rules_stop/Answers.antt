use Rattle.round_laws.proofs.Following.{rules_stop}
use Rattle.round_laws.proofs.laws.rules_stop.Goals as goal

pub returns : goal.returns
returns c = rules_stop
