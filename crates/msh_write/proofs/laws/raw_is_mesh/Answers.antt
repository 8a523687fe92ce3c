use Rattle.msh_write.proofs.MeshBack.{raw-is_mesh}
use Rattle.msh_write.proofs.laws.raw_is_mesh.Goals as goal

pub returns : goal.returns
returns c = raw-is_mesh
