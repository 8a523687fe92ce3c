use Rattle.view_laws.proofs.FirstRound.{ends_in_views}
use Rattle.view_laws.proofs.laws.first_round_ends_in_views.Goals as goal

pub returns : goal.returns
returns c = ends_in_views
