use Rattle.view_laws.proofs.Following.{follows_over}
use Rattle.view_laws.proofs.laws.rules_stop.Goals as goal

pub returns : goal.returns
returns c = follows_over
