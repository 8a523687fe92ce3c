use Rattle.staged_meshes.proofs.OneStage.{stages_are_one}
use Rattle.staged_meshes.proofs.laws.stages_are_one.Goals as goal

pub returns : goal.returns
returns c = stages_are_one
