use Rattle.world_run.proofs.Together.{parts_make_mesh}
use Rattle.world_run.proofs.laws.parts_make_mesh.Goals as goal

pub returns : goal.returns
returns c = parts_make_mesh
