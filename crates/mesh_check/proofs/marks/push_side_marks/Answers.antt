use Rattle.std.proofs.Common.{pos}
use Rattle.ma_cells.specs.Cells.{mark_on}
use Rattle.mesh_check.proofs.Marking.{filter_map_on}
use Rattle.mesh_check.proofs.marks.push_side_marks.Goals as goal

pub loop-side-preserved : goal.loop-side-preserved
loop-side-preserved c =
    filter_map_on (λ side. mark_on side.0 (pos 0) (pos 0)) c.args.sides.now c.loop-side.side-index c.side-item.result c.args.marks.now.items c.loop-side.marks.items c.push_if_any.new.marks.items c.side_mark.result
    c.loop-side-test.true c.side-item.is c.side_mark.ensures c.in_ok-push_if_any.ensures c.loop-side.invariant
