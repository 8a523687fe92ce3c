use Rattle.phase_laws.proofs.Starts.{start_is_right}
use Rattle.phase_laws.proofs.laws.start_is_right.Goals as goal

pub returns : goal.returns
returns g c = start_is_right
