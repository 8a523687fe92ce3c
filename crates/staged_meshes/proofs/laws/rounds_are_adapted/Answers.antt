use Rattle.staged_meshes.proofs.OneStage.{rounds_are_adapted}
use Rattle.staged_meshes.proofs.laws.rounds_are_adapted.Goals as goal

pub returns : goal.returns
returns c = rounds_are_adapted
