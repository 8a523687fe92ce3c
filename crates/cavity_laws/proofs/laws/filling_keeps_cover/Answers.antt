use Rattle.cavity_laws.proofs.Cavities.{filling_keeps_cover}
use Rattle.cavity_laws.proofs.laws.filling_keeps_cover.Goals as goal

pub returns : goal.returns
returns c = filling_keeps_cover
