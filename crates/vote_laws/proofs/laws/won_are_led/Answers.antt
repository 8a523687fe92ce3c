use Rattle.vote_laws.proofs.Votes.{won_are}
use Rattle.vote_laws.proofs.laws.won_are_led.Goals as goal

pub returns : goal.returns
returns c = won_are
