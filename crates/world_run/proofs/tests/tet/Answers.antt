use Rattle.world_run.proofs.TestMeshes.{tet_on_grid}
use Rattle.world_run.proofs.tests.tet.Goals as goal

pub returns : goal.returns
returns c = rw (c.ok_or.ensures.value, c.new.ensures) (tet_on_grid c.args.corners _ _ _ c.requires)
