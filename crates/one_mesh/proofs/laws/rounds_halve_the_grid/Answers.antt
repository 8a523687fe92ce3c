use Rattle.one_mesh.proofs.Rounds.{rounds_halve_the_grid}
use Rattle.one_mesh.proofs.laws.rounds_halve_the_grid.Goals as goal

pub returns : goal.returns
returns c = rounds_halve_the_grid
