use Rattle.mesh_laws.proofs.Sounds.{conforming_face_has_two}
use Rattle.mesh_laws.proofs.laws.conforming_face_has_two.Goals as goal

pub returns : goal.returns
returns c = conforming_face_has_two
