use Rattle.mesh_laws.proofs.Moved.{points_move_off_planes}
use Rattle.mesh_laws.proofs.laws.points_move_off_planes.Goals as goal

pub returns : goal.returns
returns c = points_move_off_planes
