use Rattle.std.proofs.Common.{ℕ, ◌≡◌, ◌+◌, ◌-◌, ◌<◌, ◌≤◌, length, get_or, ◌≤ℤ◌, ◌<ℤ◌}
use Rattle.size_marks.proofs.slabs.slab_of.Given as goal

-- the cut before the lower bound is at most c, and the one at the upper bound above it
abbrev pub invariant-loop-low : goal.invariant-loop-low
invariant-loop-low l = record {
  order : l.low ≤ l.high;
  within : l.high ≤ length l.cuts;
  before : (k : ℕ) → k + 1 ≡ l.low → get_or l.cuts k l.c ≤ℤ l.c;
  behind : l.high < length l.cuts → l.c <ℤ get_or l.cuts l.high l.c;
}

abbrev pub decreases-loop-low : goal.decreases-loop-low
decreases-loop-low l = l.high - l.low
