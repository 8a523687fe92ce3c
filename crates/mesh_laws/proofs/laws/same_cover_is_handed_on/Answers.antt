use Rattle.mesh_laws.proofs.MovedOff.{same_cover_is_handed_on}
use Rattle.mesh_laws.proofs.laws.same_cover_is_handed_on.Goals as goal

pub returns : goal.returns
returns c = same_cover_is_handed_on
