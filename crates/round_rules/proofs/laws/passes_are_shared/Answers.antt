use Rattle.round_rules.proofs.Turns.{are_shared}
use Rattle.round_rules.proofs.laws.passes_are_shared.Goals as goal

pub returns : goal.returns
returns c = are_shared
