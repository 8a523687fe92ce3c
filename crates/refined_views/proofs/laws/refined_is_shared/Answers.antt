use Rattle.refined_views.proofs.NextMesh.{refined_is_shared}
use Rattle.refined_views.proofs.laws.refined_is_shared.Goals as goal

pub returns : goal.returns
returns c = refined_is_shared
