use Rattle.std.proofs.Common.{sym, append_assoc}
use Rattle.meshadapt.specs.Printed.{refused_line}
use Rattle.meshadapt.proofs.lines.rounds_line.Goals as goal

pub returns : goal.returns
unfolding refused_line
returns c = rw (c.in_ok-format.ensures.ok) (sym (simp append_assoc))
