use Rattle.std.proofs.Common.{[]}
use Rattle.mesh_check.specs.steps.FoundMarks.{shifted_mark}
use Rattle.mesh_check.proofs.Marking.{filter_map_on}
use Rattle.mesh_check.proofs.marks.shifted_marks.Goals as goal

pub loop-mark-preserved : goal.loop-mark-preserved
loop-mark-preserved c =
    filter_map_on (shifted_mark c.args.nodes.now c.args.shift) c.args.marks.now c.loop-mark.mark-index c.mark-item.result [] c.loop-mark.moved.items c.push_if_any.new.marks.items c.shifted_mark.result
    c.loop-mark-test.true c.mark-item.is c.shifted_mark.ensures c.in_ok-push_if_any.ensures c.loop-mark.invariant
