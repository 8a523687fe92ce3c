use Rattle.part_phases.proofs.Kept.{balance_is_kept}
use Rattle.part_phases.proofs.laws.balance_is_kept.Goals as goal

pub returns : goal.returns
returns g c = balance_is_kept
