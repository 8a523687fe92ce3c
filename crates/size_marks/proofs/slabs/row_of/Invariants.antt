use Rattle.std.proofs.Common.{◌≡◌, ◌+◌, ◌/◌, length}
use Rattle.size_marks.specs.steps.Slabs.{MarksFirst}
use Rattle.size_marks.proofs.slabs.row_of.Given as goal

abbrev pub invariant-loop-k : goal.invariant-loop-k
invariant-loop-k l = record {
  long : length l.row ≡ length l.boxes / 64 + 1;
  marks : MarksFirst l.boxes l.axis l.cuts l.slab l.row l.k;
}
