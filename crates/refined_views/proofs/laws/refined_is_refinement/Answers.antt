use Rattle.refined_views.proofs.RefinedMesh.{refined_is_refinement}
use Rattle.refined_views.proofs.laws.refined_is_refinement.Goals as goal

pub returns : goal.returns
returns c = refined_is_refinement
