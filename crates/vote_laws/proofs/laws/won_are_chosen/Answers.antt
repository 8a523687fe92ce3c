use Rattle.vote_laws.proofs.Together.{won_are_chosen}
use Rattle.vote_laws.proofs.laws.won_are_chosen.Goals as goal

pub returns : goal.returns
returns c = won_are_chosen
