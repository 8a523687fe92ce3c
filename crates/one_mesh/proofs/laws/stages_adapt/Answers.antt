use Rattle.one_mesh.proofs.Rounds.{stages_adapt}
use Rattle.one_mesh.proofs.laws.stages_adapt.Goals as goal

pub returns : goal.returns
returns c = stages_adapt
