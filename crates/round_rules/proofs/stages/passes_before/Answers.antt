use Rattle.std.proofs.Common.{sym}
use Rattle.round_rules.proofs.Turns.{in_turn}
use Rattle.round_rules.proofs.stages.passes_before.Goals as goal

pub returns : goal.returns
returns c = sym (in_turn c.args.phase).1
