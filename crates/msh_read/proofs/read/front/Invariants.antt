use Rattle.std.proofs.Common.{◌≡◌, length}
use Rattle.msh_read.specs.steps.Front.{nothing_read}
use Rattle.msh_read.specs.steps.LinesRead.{after}
use Rattle.msh_read.proofs.read.front.Given as goal

abbrev pub invariant-loop-line : goal.invariant-loop-line
invariant-loop-line l = (after l.front l.lines.lines ≡ after nothing_read l.fn.lines.lines) × (l.lines.end ≡ l.fn.lines.end)

abbrev pub decreases-loop-line : goal.decreases-loop-line
decreases-loop-line l = length l.lines.lines
