use Rattle.cavity_laws.proofs.Cavities.{cavity_keeps_cover}
use Rattle.cavity_laws.proofs.laws.cavity_keeps_cover.Goals as goal

pub returns : goal.returns
returns c = cavity_keeps_cover
