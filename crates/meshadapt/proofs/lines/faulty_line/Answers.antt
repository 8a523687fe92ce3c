use Rattle.std.proofs.Common.{sym, append_assoc}
use Rattle.meshadapt.specs.Printed.{refused_line}
use Rattle.meshadapt.proofs.lines.faulty_line.Goals as goal

pub returns : goal.returns
unfolding refused_line
returns c = rw (c.in_ok-format.ensures.ok, c.in_ok-kind.ensures) (sym (simp append_assoc))
