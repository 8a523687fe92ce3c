use Rattle.phase_laws.proofs.Ends.{none_waits_just_at_the_end}
use Rattle.phase_laws.proofs.laws.none_waits_just_at_the_end.Goals as goal

pub returns : goal.returns
returns g c = none_waits_just_at_the_end
