use Rattle.mesh_laws.proofs.OneSide.{tetrahedron_has_point}
use Rattle.mesh_laws.proofs.laws.tetrahedron_has_point.Goals as goal

pub returns : goal.returns
returns c = tetrahedron_has_point
