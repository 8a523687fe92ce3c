use Rattle.refined_views.proofs.RefinedMesh.{refined_is_not_flat}
use Rattle.refined_views.proofs.laws.refined_is_not_flat.Goals as goal

pub returns : goal.returns
returns c = refined_is_not_flat
