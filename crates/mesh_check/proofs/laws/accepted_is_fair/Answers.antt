use Rattle.mesh_check.proofs.Fair.{accepted_is_fair}
use Rattle.mesh_check.proofs.laws.accepted_is_fair.Goals as goal

pub returns : goal.returns
returns c = accepted_is_fair
