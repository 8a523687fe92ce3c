use Rattle.vote_laws.proofs.Votes.{proposals_are}
use Rattle.vote_laws.proofs.laws.proposals_are_led.Goals as goal

pub returns : goal.returns
returns c = proposals_are
