use Rattle.cavity_laws.proofs.Swaps.{swap_keeps_parity}
use Rattle.cavity_laws.proofs.laws.swap_keeps_parity.Goals as goal

pub returns : goal.returns
returns c = swap_keeps_parity
