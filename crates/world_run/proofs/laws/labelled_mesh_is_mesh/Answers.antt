use Rattle.world_run.proofs.Labelling.{labelled_mesh_is_mesh}
use Rattle.world_run.proofs.laws.labelled_mesh_is_mesh.Goals as goal

pub returns : goal.returns
returns c = labelled_mesh_is_mesh
