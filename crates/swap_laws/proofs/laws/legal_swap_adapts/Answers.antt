use Rattle.swap_laws.proofs.Adapts.{legal_swap_adapts}
use Rattle.swap_laws.proofs.laws.legal_swap_adapts.Goals as goal

pub returns : goal.returns
returns c = legal_swap_adapts
