use Rattle.ma_geom.proofs.PlaceOrder.{place_cmp-IsAntisymmetric}
use Rattle.mesh_check.proofs.tetrahedra.first_at_one_place.Goals as goal

pub returns : goal.returns
returns c = c.first_pair.ensures place_cmp-IsAntisymmetric
