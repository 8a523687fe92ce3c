use Rattle.std.proofs.Common.{length}
use Rattle.ma_text.proofs.LineSteps.{IsLeft}
use Rattle.ma_text.proofs.lines.Lines.next_line.Given as goal

abbrev pub invariant-loop-bytes : goal.invariant-loop-bytes
invariant-loop-bytes l = IsLeft l.fn.self l.self-inside.number l.self-inside.rest.now

abbrev pub decreases-loop-bytes : goal.decreases-loop-bytes
decreases-loop-bytes l = length l.self-inside.rest.now
