use Rattle.refined_views.proofs.RefinedMesh.{refined_is_labelled}
use Rattle.refined_views.proofs.laws.refined_is_labelled.Goals as goal

pub returns : goal.returns
returns c = refined_is_labelled
