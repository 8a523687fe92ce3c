use Rattle.mesh_laws.proofs.Sounds.{sound_as_sets}
use Rattle.mesh_laws.proofs.laws.sound_as_sets.Goals as goal

pub returns : goal.returns
returns c = sound_as_sets
