use Rattle.ma_text.proofs.LineCuts.{first_line, one_line}
use Rattle.ma_text.proofs.Firsts.{none_passes, passes_first}
use Rattle.ma_text.proofs.lines.cut_line.Goals as goal

pub returns-in-None-clause-line : goal.returns-in-None-clause-line
returns-in-None-clause-line c =
    one_line c.args.bytes.now c.if-is_empty.ensures (none_passes _ c.args.bytes.now c.in-None.ensures)

pub returns-in-Some-clause-line : goal.returns-in-Some-clause-line
returns-in-Some-clause-line c =
    first_line c.args.bytes.now c.in-Some.end c.without_return.result.now (passes_first _ c.args.bytes.now c.in-Some.end c.in-Some.ensures) c.without_return.ensures
