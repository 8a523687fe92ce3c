use Rattle.std.proofs.Common.{sym, append_assoc}
use Rattle.meshadapt.proofs.lines.part_name.Goals as goal

pub returns : goal.returns
returns c = rw (c.in_ok-format.ensures.ok) (sym (simp append_assoc))
