use Rattle.vote_laws.proofs.Votes.{proposed_are}
use Rattle.vote_laws.proofs.laws.proposals_are_owed.Goals as goal

pub returns : goal.returns
returns c = proposed_are
