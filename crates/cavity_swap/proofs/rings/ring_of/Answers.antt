use Rattle.cavity_swap.proofs.Rounds.{alone_rings}
use Rattle.cavity_swap.proofs.rings.ring_of.Goals as goal

pub returns-clause-alone : goal.returns-clause-alone
returns-clause-alone c = alone_rings
