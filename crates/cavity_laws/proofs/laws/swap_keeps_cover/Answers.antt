use Rattle.cavity_laws.proofs.Swaps.{swap_keeps_cover}
use Rattle.cavity_laws.proofs.laws.swap_keeps_cover.Goals as goal

pub returns : goal.returns
returns c = swap_keeps_cover
