use Rattle.ma_geom.proofs.PlaceOrder.{place_cmp-IsAntisymmetric}
use Rattle.ghost_layer.proofs.SharedWith.{has-set}
use Rattle.ghost_layer.proofs.showing.places_with.Goals as goal

pub returns : goal.returns
returns c = has-set c.args.part c.args.shared.now _ c.gather.result c.in_ok-listed_with.ensures (c.gather.ensures.is place_cmp-IsAntisymmetric)
