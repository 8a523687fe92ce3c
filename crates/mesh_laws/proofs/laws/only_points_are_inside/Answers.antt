use Rattle.mesh_laws.proofs.Weights.{inside_is_point}
use Rattle.mesh_laws.proofs.laws.only_points_are_inside.Goals as goal

pub returns : goal.returns
returns c = inside_is_point
