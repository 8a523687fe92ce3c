use Rattle.refined_views.proofs.RefinedMesh.{refined_halves_the_grid}
use Rattle.refined_views.proofs.laws.refined_halves_the_grid.Goals as goal

pub returns : goal.returns
returns c = refined_halves_the_grid
