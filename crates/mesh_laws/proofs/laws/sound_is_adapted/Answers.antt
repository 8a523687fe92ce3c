use Rattle.mesh_laws.proofs.Adapted.{sound_is_adapted}
use Rattle.mesh_laws.proofs.laws.sound_is_adapted.Goals as goal

pub returns : goal.returns
returns c = sound_is_adapted
