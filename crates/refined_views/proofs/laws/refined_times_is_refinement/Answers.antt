use Rattle.refined_views.proofs.NextMesh.{refined_times_is_refinement}
use Rattle.refined_views.proofs.laws.refined_times_is_refinement.Goals as goal

pub returns : goal.returns
returns c = refined_times_is_refinement
