use Rattle.legal_moves.specs.Around.{swaps_around}
use Rattle.legal_moves.proofs.Pushing.{one_pushed}
use Rattle.legal_moves.proofs.swaps.push_face_swaps.Goals as goal

pub loop-corners-preserved : goal.loop-corners-preserved
loop-corners-preserved c = record {
  near = c.in_ok-push_at_face.ensures.near;
  pushed = one_pushed (swaps_around c.args.mesh.now) c.args.faces.now c.loop-corners.corners-index c.corners-item.result c.loop-corners.ops.items c.push_at_face.new.ops.items _ c.loop-corners-test.true c.corners-item.is c.in_ok-push_at_face.ensures.ops c.loop-corners.invariant.pushed;
}
