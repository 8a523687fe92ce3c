use Rattle.std.proofs.Common.{sym, append_assoc}
use Rattle.meshadapt.proofs.lines.fault_text.Goals as goal

pub returns-in_ok-format-in-SamePlace : goal.returns-in_ok-format-in-SamePlace
returns-in_ok-format-in-SamePlace c = rw (c.in_ok-format-in-SamePlace.ensures.ok, c.in-SamePlace.is) (sym (simp append_assoc))

pub returns-in_ok-format-in-Repeated : goal.returns-in_ok-format-in-Repeated
returns-in_ok-format-in-Repeated c = rw (c.in_ok-format-in-Repeated.ensures.ok, c.in-Repeated.is) (sym (simp append_assoc))

pub returns-in_ok-format-in-Overlap : goal.returns-in_ok-format-in-Overlap
returns-in_ok-format-in-Overlap c = rw (c.in_ok-format-in-Overlap.ensures.ok, c.in-Overlap.is) (sym (simp append_assoc))
