use Rattle.one_mesh.proofs.Rounds.{rounds_adapt}
use Rattle.one_mesh.proofs.laws.rounds_adapt.Goals as goal

pub returns : goal.returns
returns c = rounds_adapt
