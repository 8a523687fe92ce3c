use Rattle.std.proofs.Common.{◌≡◌, take}
use Rattle.std.specs.List.{filter_map}
use Rattle.mesh_check.specs.steps.FoundMarks.{shifted_mark}
use Rattle.mesh_check.proofs.marks.shifted_marks.Given as goal

abbrev pub invariant-loop-mark : goal.invariant-loop-mark
invariant-loop-mark l = l.moved.items ≡ filter_map (shifted_mark l.nodes l.shift) (take l.mark-index l.marks)
