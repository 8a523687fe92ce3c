use Rattle.mesh_laws.proofs.Sounds.{odd_marked_is_sound}
use Rattle.mesh_laws.proofs.laws.odd_marked_is_sound.Goals as goal

pub returns : goal.returns
returns c = odd_marked_is_sound
