use Rattle.std.proofs.Common.{sym, append_assoc}
use Rattle.meshadapt.proofs.lines.job_text.Goals as goal

pub returns-in_ok-format-in-BadLine : goal.returns-in_ok-format-in-BadLine
returns-in_ok-format-in-BadLine c = rw (c.in_ok-format-in-BadLine.ensures.ok, c.in-BadLine.is, c.file_text-file.ensures) (sym (simp append_assoc))

pub returns-in_ok-format-in-SizeOutOfRange : goal.returns-in_ok-format-in-SizeOutOfRange
returns-in_ok-format-in-SizeOutOfRange c = rw (c.in_ok-format-in-SizeOutOfRange.ensures.ok, c.in-SizeOutOfRange.is, c.file_text-file.ensures) (sym (simp append_assoc))

pub returns-in_ok-format-in-TooManyBoxes : goal.returns-in_ok-format-in-TooManyBoxes
returns-in_ok-format-in-TooManyBoxes c = rw (c.in_ok-format-in-TooManyBoxes.ensures.ok, c.in-TooManyBoxes.is, c.file_text-file.ensures) (sym (simp append_assoc))

pub returns-in_ok-format-in-PartTooBig : goal.returns-in_ok-format-in-PartTooBig
returns-in_ok-format-in-PartTooBig c = rw (c.in_ok-format-in-PartTooBig.ensures.ok, c.in-PartTooBig.is, c.file_text-file.ensures) (sym (simp append_assoc))

pub returns-in_ok-format-in-WrongCount : goal.returns-in_ok-format-in-WrongCount
returns-in_ok-format-in-WrongCount c = rw (c.in_ok-format-in-WrongCount.ensures.ok, c.in-WrongCount.is, c.file_text-file.ensures) (sym (simp append_assoc))
