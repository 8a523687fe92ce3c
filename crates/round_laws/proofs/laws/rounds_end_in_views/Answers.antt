use Rattle.round_laws.proofs.AllRounds.{rounds_end_in_views}
use Rattle.round_laws.proofs.laws.rounds_end_in_views.Goals as goal

pub returns : goal.returns
returns c = rounds_end_in_views
