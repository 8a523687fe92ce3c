use Rattle.std.proofs.Common.{sym, append_assoc}
use Rattle.meshadapt.specs.Printed.{bad_letter_line}
use Rattle.meshadapt.proofs.lines.bad_letter_line.Goals as goal

pub returns : goal.returns
unfolding bad_letter_line
returns c = rw (c.in_ok-format.ensures.ok) (sym (simp append_assoc))
