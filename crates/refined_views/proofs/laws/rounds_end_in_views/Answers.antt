use Rattle.refined_views.proofs.NextRound.{rounds_end_in_views}
use Rattle.refined_views.proofs.laws.rounds_end_in_views.Goals as goal

pub returns : goal.returns
returns c = rounds_end_in_views
