use Rattle.mesh_passes.proofs.Taken.{taken_step}
use Rattle.mesh_passes.proofs.choosing.take_all.Goals as goal

pub loop-op-preserved : goal.loop-op-preserved
loop-op-preserved c =
    taken_step c.args.ops.now c.args.tets.now c.loop-op.op-index c.op-item.result c.loop-op.taken _ c.loop-op-test.true c.op-item.is c.loop-op.invariant c.in_ok-_free.ensures.taken
