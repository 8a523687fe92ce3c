use Rattle.refined_views.proofs.NextRound.{refining_round_ends_in_views}
use Rattle.refined_views.proofs.laws.refining_round_ends_in_views.Goals as goal

pub returns : goal.returns
returns c = refining_round_ends_in_views
