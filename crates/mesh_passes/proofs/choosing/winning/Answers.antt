use Rattle.std.proofs.Common.{ap, ◌∙◌}
use Rattle.pass_rules.specs.Choosing.{is_in}
use Rattle.mesh_passes.specs.Taking.{are_free}
use Rattle.corner_tables.specs.Tables.{positions_from}
use Rattle.mesh_passes.proofs.Taken.{taken_step, won_step}
use Rattle.mesh_passes.proofs.choosing.winning.Goals as goal

pub loop-op-preserved : goal.loop-op-preserved
loop-op-preserved c =
    let op = c.op-item.result in
    let i = c.loop-op.op-index in
    record {
      won = won_step c.args.ops.now c.args.tets.now i op c.loop-op.won.items _ c.in_ok-free.free c.requires.sorted c.loop-op-test.true c.op-item.is c.loop-op.invariant.won
          (c.in_ok-free.ensures.free ∙ ap (λ t. are_free t (positions_from 0 (is_in op) c.args.tets.now)) c.loop-op.invariant.taken) c.in_ok-push_won.ensures;
      taken = taken_step c.args.ops.now c.args.tets.now i op c.loop-op.taken _ c.loop-op-test.true c.op-item.is c.loop-op.invariant.taken c.in_ok-free.ensures.taken;
    }
