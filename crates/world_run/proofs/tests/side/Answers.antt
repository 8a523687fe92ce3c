use Rattle.world_run.proofs.TestMeshes.{far_side, near_side}
use Rattle.world_run.proofs.tests.side.Goals as goal

pub returns-then-number-eq0 : goal.returns-then-number-eq0
returns-then-number-eq0 c = near_side

pub returns-else-number-eq0 : goal.returns-else-number-eq0
returns-else-number-eq0 c = far_side
