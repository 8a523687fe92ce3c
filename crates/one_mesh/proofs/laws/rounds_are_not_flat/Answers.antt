use Rattle.one_mesh.proofs.Rounds.{rounds_are_not_flat}
use Rattle.one_mesh.proofs.laws.rounds_are_not_flat.Goals as goal

pub returns : goal.returns
returns c = rounds_are_not_flat
