use Rattle.phase_laws.proofs.Draws.{turns_stay_right}
use Rattle.phase_laws.proofs.laws.turns_stay_right.Goals as goal

pub returns : goal.returns
returns g c = turns_stay_right
