use Rattle.vote_laws.proofs.Votes.{ordered_are}
use Rattle.vote_laws.proofs.laws.orders_are_owed.Goals as goal

pub returns : goal.returns
returns c = ordered_are
