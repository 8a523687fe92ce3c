use Rattle.ma_text.proofs.LineSteps.{is_over}
use Rattle.ma_text.proofs.lines.Lines.next_line.Goals as goal

pub returns-clause-line : goal.returns-clause-line
returns-clause-line c =
    is_over c.args.self.now c.loop-bytes.self-inside.number c.loop-bytes.self-inside.rest.now c.in_default.ensures.line c.loop-bytes.invariant
