use Rattle.std.proofs.Common.{◌≡◌, flat_map, take}
use Rattle.cavity_collapse.specs.Collapsing.{moved_mark}
use Rattle.cavity_collapse.proofs.results.moved_marks.Given as goal

abbrev pub invariant-loop-mark : goal.invariant-loop-mark
invariant-loop-mark l = l.moved.items ≡ flat_map (moved_mark l.a l.v) (take l.mark-index l.marks)
