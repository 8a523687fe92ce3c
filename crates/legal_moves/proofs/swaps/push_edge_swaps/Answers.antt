use Rattle.legal_moves.specs.Around.{swaps_around}
use Rattle.legal_moves.proofs.Pushing.{one_pushed}
use Rattle.legal_moves.proofs.swaps.push_edge_swaps.Goals as goal

pub loop-ends-preserved : goal.loop-ends-preserved
loop-ends-preserved c = record {
  near = c.in_ok-push_at_edge.ensures.near;
  pushed = one_pushed (swaps_around c.args.mesh.now) c.args.edges.now c.loop-ends.ends-index c.ends-item.result c.loop-ends.ops.items c.push_at_edge.new.ops.items _ c.loop-ends-test.true c.ends-item.is c.in_ok-push_at_edge.ensures.ops c.loop-ends.invariant.pushed;
}
