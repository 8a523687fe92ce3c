-- The block that is looked at, behind which no block up to the last has a bit in all three rows.
use Rattle.std.proofs.Common.{ℕ, ◌≡◌, ◌<◌, ◌≤◌}
use Rattle.size_marks.specs.steps.Slabs.{common_word}
use Rattle.size_marks.proofs.looking.last_met.Given as goal

abbrev pub invariant-loop-block : goal.invariant-loop-block
invariant-loop-block l = record {
  within : l.block ≤ l.last;
  behind : (k : ℕ) → l.block < k → k ≤ l.last → common_word l.x l.y l.z k ≡ 0;
}

abbrev pub decreases-loop-block : goal.decreases-loop-block
decreases-loop-block l = l.block
