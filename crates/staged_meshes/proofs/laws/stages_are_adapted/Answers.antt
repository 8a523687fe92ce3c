use Rattle.staged_meshes.proofs.OneStage.{stages_are_adapted}
use Rattle.staged_meshes.proofs.laws.stages_are_adapted.Goals as goal

pub returns : goal.returns
returns c = stages_are_adapted
