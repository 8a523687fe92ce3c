use Rattle.view_laws.proofs.Following.{follows_mesh}
use Rattle.view_laws.proofs.laws.rules_follow.Goals as goal

pub returns : goal.returns
returns c = follows_mesh
