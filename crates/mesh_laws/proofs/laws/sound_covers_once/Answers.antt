use Rattle.mesh_laws.proofs.Sounds.{sound_covers_once}
use Rattle.mesh_laws.proofs.laws.sound_covers_once.Goals as goal

pub returns : goal.returns
returns c = sound_covers_once
