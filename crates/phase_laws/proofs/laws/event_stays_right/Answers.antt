use Rattle.phase_laws.proofs.Events.{event_stays_right}
use Rattle.phase_laws.proofs.laws.event_stays_right.Goals as goal

pub returns : goal.returns
returns g c = event_stays_right
