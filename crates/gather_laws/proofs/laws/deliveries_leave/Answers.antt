use Rattle.gather_laws.proofs.Applying.{after_orders_are}
use Rattle.gather_laws.proofs.laws.deliveries_leave.Goals as goal

pub returns : goal.returns
returns c = λ parts kind field mesh home right p s within seen. after_orders_are parts kind field mesh right p within home s seen
