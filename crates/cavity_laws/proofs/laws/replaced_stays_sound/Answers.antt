use Rattle.cavity_laws.proofs.Replaced.{replaced_stays_sound}
use Rattle.cavity_laws.proofs.laws.replaced_stays_sound.Goals as goal

pub returns : goal.returns
returns c = replaced_stays_sound
