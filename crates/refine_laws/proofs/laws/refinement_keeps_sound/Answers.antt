use Rattle.refine_laws.proofs.Sound.{refinement_keeps_sound}
use Rattle.refine_laws.proofs.laws.refinement_keeps_sound.Goals as goal

pub returns : goal.returns
returns c = refinement_keeps_sound
