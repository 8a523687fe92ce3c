use Rattle.mesh_laws.proofs.OneSide.{one_side_has_common_point}
use Rattle.mesh_laws.proofs.laws.one_side_has_common_point.Goals as goal

pub returns : goal.returns
returns c = one_side_has_common_point
