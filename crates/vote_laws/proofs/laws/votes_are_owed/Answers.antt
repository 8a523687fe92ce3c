use Rattle.vote_laws.proofs.Votes.{voted_are}
use Rattle.vote_laws.proofs.laws.votes_are_owed.Goals as goal

pub returns : goal.returns
returns c = voted_are
