use Rattle.mesh_laws.proofs.Sounds.{same_cover_stays_sound}
use Rattle.mesh_laws.proofs.laws.same_cover_stays_sound.Goals as goal

pub returns : goal.returns
returns c = same_cover_stays_sound
