use Rattle.refined_views.proofs.Beginnings.{refined_stores}
use Rattle.refined_views.proofs.laws.refined_stores.Goals as goal

pub returns : goal.returns
returns c = refined_stores
