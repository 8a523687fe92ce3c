use Rattle.gather_laws.proofs.Delivering.{delivered_are}
use Rattle.gather_laws.proofs.laws.deliveries_are_owed.Goals as goal

pub returns : goal.returns
returns c = λ parts kind field mesh p q s within seen. delivered_are parts kind field mesh p q within s seen
