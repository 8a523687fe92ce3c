use Rattle.std.proofs.Common.{sym, append_assoc}
use Rattle.meshadapt.specs.Printed.{too_many_line}
use Rattle.meshadapt.proofs.lines.too_many_line.Goals as goal

pub returns : goal.returns
unfolding too_many_line
returns c = rw (c.in_ok-format.ensures.ok) (sym (simp append_assoc))
