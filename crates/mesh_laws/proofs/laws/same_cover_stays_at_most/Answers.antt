use Rattle.mesh_laws.proofs.Regions.{same_cover_stays_at_most}
use Rattle.mesh_laws.proofs.laws.same_cover_stays_at_most.Goals as goal

pub returns : goal.returns
returns c = same_cover_stays_at_most
