use Rattle.ma_geom.proofs.PlaceOrder.{place_cmp_total}
use Rattle.letters.proofs.Orders.{sorted}
use Rattle.letters.proofs.bodies.places_at.Goals as goal

pub from_vec-requires : goal.from_vec-requires
from_vec-requires c = sorted place_cmp_total c.in_ok-places.places.items c.in_ok-places.ensures.behind
