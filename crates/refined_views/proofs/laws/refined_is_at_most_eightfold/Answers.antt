use Rattle.refined_views.proofs.Eightfold.{refined_is_at_most_eightfold}
use Rattle.refined_views.proofs.laws.refined_is_at_most_eightfold.Goals as goal

pub returns : goal.returns
returns c = refined_is_at_most_eightfold
