use Rattle.std.proofs.Common.{sym, append_assoc}
use Rattle.meshadapt.specs.Printed.{parts_done_line}
use Rattle.meshadapt.proofs.lines.parts_done_line.Goals as goal

pub returns : goal.returns
unfolding parts_done_line
returns c = rw (c.in_ok-format.ensures.ok) (sym (simp append_assoc))
