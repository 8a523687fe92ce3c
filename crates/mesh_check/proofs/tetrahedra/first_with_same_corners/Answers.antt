use Rattle.std.specs.FinMap.{slice_cmp-IsAntisymmetric}
use Rattle.ma_geom.proofs.PlaceOrder.{place_cmp-IsAntisymmetric}
use Rattle.mesh_check.proofs.tetrahedra.first_with_same_corners.Goals as goal

pub returns : goal.returns
returns c = c.first_pair.ensures (slice_cmp-IsAntisymmetric place_cmp-IsAntisymmetric)
