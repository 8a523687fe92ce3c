use Rattle.ma_geom.proofs.PlaceOrder.{place_cmp_total}
use Rattle.letters.proofs.Orders.{from_sorted}
use Rattle.letters.proofs.encoding.put_places.Goals as goal

pub put_list-requires : goal.put_list-requires
put_list-requires c = from_sorted place_cmp_total c.as_slice.result.now c.as_slice.ensures.rises
