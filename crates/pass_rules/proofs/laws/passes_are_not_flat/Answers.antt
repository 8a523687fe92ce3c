use Rattle.pass_rules.proofs.Kept.{passes_are_not_flat}
use Rattle.pass_rules.proofs.laws.passes_are_not_flat.Goals as goal

pub returns : goal.returns
returns c = passes_are_not_flat
