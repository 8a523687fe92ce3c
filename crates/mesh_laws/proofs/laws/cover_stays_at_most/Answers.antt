use Rattle.mesh_laws.proofs.MovedOff.{cover_stays_at_most}
use Rattle.mesh_laws.proofs.laws.cover_stays_at_most.Goals as goal

pub returns : goal.returns
returns c = cover_stays_at_most
