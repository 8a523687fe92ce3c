use Rattle.std.proofs.Common.{ap, ◌∙◌, arith, length}
use Rattle.ma_text.specs.Lines.{lines_of}
use Rattle.ma_text.proofs.LineCuts.{lines_of-nil}
use Rattle.ma_text.proofs.lines.count_lines.Goals as goal

pub returns-clause-count : goal.returns-clause-count
returns-clause-count c =
    omega (arith, c.loop-behind.invariant.0, ap length (ap lines_of c.in_default.ensures.line ∙ lines_of-nil))
