use Rattle.round_rules.proofs.Turns.{in_turn}
use Rattle.round_rules.proofs.laws.phases_come_in_turn.Goals as goal

pub returns : goal.returns
returns c = in_turn
