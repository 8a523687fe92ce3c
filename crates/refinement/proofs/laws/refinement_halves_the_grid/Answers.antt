use Rattle.refinement.proofs.Gridded.{refinement_halves_the_grid}
use Rattle.refinement.proofs.laws.refinement_halves_the_grid.Goals as goal

pub returns : goal.returns
returns c = refinement_halves_the_grid
