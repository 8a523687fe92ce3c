use Rattle.round_laws.proofs.Following.{rules_follow}
use Rattle.round_laws.proofs.laws.rules_follow.Goals as goal

pub returns : goal.returns
returns c = rules_follow
