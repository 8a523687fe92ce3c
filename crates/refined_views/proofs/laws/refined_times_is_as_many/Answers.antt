use Rattle.refined_views.proofs.AsMany.{refined_times_is_as_many}
use Rattle.refined_views.proofs.laws.refined_times_is_as_many.Goals as goal

pub returns : goal.returns
returns c = refined_times_is_as_many
