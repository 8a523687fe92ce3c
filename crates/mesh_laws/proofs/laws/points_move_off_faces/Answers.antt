use Rattle.mesh_laws.proofs.MovedOff.{points_move_off_faces}
use Rattle.mesh_laws.proofs.laws.points_move_off_faces.Goals as goal

pub returns : goal.returns
returns c = points_move_off_faces
