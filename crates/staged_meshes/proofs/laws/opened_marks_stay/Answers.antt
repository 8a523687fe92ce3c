use Rattle.staged_meshes.proofs.StagesShared.{opened_marks_stay}
use Rattle.staged_meshes.proofs.laws.opened_marks_stay.Goals as goal

pub returns : goal.returns
returns c = opened_marks_stay
