use Rattle.phase_laws.proofs.Starts.{all_end_whatever_is_drawn}
use Rattle.phase_laws.proofs.laws.all_end_whatever_is_drawn.Goals as goal

pub returns : goal.returns
returns g c = all_end_whatever_is_drawn
