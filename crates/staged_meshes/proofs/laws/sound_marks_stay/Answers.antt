use Rattle.staged_meshes.proofs.StagesShared.{sound_marks_stay}
use Rattle.staged_meshes.proofs.laws.sound_marks_stay.Goals as goal

pub returns : goal.returns
returns c = sound_marks_stay
