use Rattle.staged_meshes.proofs.OneStage.{rounds_are_one}
use Rattle.staged_meshes.proofs.laws.rounds_are_one.Goals as goal

pub returns : goal.returns
returns c = rounds_are_one
