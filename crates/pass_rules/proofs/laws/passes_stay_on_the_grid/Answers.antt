use Rattle.pass_rules.proofs.Kept.{passes_stay_on_the_grid}
use Rattle.pass_rules.proofs.laws.passes_stay_on_the_grid.Goals as goal

pub returns : goal.returns
returns c = passes_stay_on_the_grid
