use Rattle.phase_laws.proofs.Together.{lockstep_is_followed}
use Rattle.phase_laws.proofs.laws.lockstep_is_followed.Goals as goal

pub returns : goal.returns
returns g c = lockstep_is_followed
