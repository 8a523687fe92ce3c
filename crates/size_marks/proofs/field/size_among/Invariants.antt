use Rattle.std.proofs.Common.{◌≡◌, ◌≤◌, length}
use Rattle.size_marks.specs.Field.{last_or, sizes_at}
use Rattle.size_marks.proofs.field.size_among.Given as goal

-- no box behind those that are left holds the place
abbrev pub invariant-loop-before : goal.invariant-loop-before
invariant-loop-before l = record {
  front : length l.before ≤ length l.boxes;
  size : last_or l.default (sizes_at l.before l.p) ≡ last_or l.default (sizes_at l.boxes l.p);
}

abbrev pub decreases-loop-before : goal.decreases-loop-before
decreases-loop-before l = length l.before
