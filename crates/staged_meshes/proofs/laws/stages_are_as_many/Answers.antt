use Rattle.staged_meshes.proofs.OneLabel.{stages_are_as_many}
use Rattle.staged_meshes.proofs.laws.stages_are_as_many.Goals as goal

pub returns : goal.returns
returns c = stages_are_as_many
