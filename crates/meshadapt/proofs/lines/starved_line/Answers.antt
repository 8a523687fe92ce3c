use Rattle.std.proofs.Common.{sym, append_assoc}
use Rattle.meshadapt.specs.Printed.{starved_line}
use Rattle.meshadapt.proofs.lines.starved_line.Goals as goal

pub returns : goal.returns
unfolding starved_line
returns c = rw (c.in_ok-format.ensures.ok) (sym (simp append_assoc))
