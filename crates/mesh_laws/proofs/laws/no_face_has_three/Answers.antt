use Rattle.mesh_laws.proofs.BothSides.{no_face_has_three}
use Rattle.mesh_laws.proofs.laws.no_face_has_three.Goals as goal

pub returns : goal.returns
returns c = no_face_has_three
