use Rattle.std.proofs.Common.{◌≡◌, ◌+◌, ◌≤◌, length}
use Rattle.ma_text.specs.Lines.{lines_of}
use Rattle.ma_text.proofs.lines.count_lines.Given as goal

abbrev pub invariant-loop-behind : goal.invariant-loop-behind
invariant-loop-behind l =
    (l.count + length (lines_of l.rest) ≡ length (lines_of l.bytes)) × (l.count + length l.rest ≤ length l.bytes)

abbrev pub decreases-loop-behind : goal.decreases-loop-behind
decreases-loop-behind l = length l.rest
