use Rattle.ma_geom.proofs.PlaceOrder.{place_cmp-IsAntisymmetric}
use Rattle.part_store.proofs.sieve.SievedSet.gather.Goals as goal

pub returns : goal.returns
returns c = c.gather-places.ensures.is place_cmp-IsAntisymmetric
