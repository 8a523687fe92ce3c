use Rattle.std.proofs.Common.{ℕ, ◌≡◌, ◌<◌, ◌≤◌, length, get_or}
use Rattle.size_marks.specs.Field.{BoxedSize, last_or, sizes_at}
use Rattle.size_marks.proofs.looking.size_by_index.Given as goal

-- the boxes that are left are the first ones, and no box behind them holds the place
abbrev pub invariant-loop-x : goal.invariant-loop-x
invariant-loop-x l = record {
  within : length l.before ≤ length l.boxes;
  first : (k : ℕ) (d : BoxedSize) → k < length l.before → get_or l.before k d ≡ get_or l.boxes k d;
  size : last_or l.default (sizes_at l.before l.p) ≡ last_or l.default (sizes_at l.boxes l.p);
}

abbrev pub decreases-loop-x : goal.decreases-loop-x
decreases-loop-x l = length l.before
