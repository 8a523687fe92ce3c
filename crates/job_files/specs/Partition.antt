-- The partition file: the number of a part in each line.
--     part_of        what a line says of so many parts
--     labels_of      what the file says, of so many tetrahedra and parts
use Rattle.std.specs.Prelude.{ℕ, ◌==◌, nat_lt, if◌then◌else◌, ℤ, pos, negsuc, List, length, Option, Some, None, Result, Ok, Err}
use Rattle.ma_text.specs.Lines.{numbered_lines}
use Rattle.ma_text.specs.Numbers.{written}
use Rattle.ma_text.specs.Words.{words_of}
use Rattle.msh_read.specs.Lines.{one_of}
use Rattle.msh_read.specs.Trying.{◌>>=◌, each}
use Rattle.job_files.specs.declared.fault.JobFault.{JobFault}
use Rattle.job_files.specs.declared.fault.JobFault.TheVariants.{BadLine, PartTooBig, WrongCount}
use Rattle.job_files.specs.Answer.{or_bad_line}

-- a number of any size is no wrong word, but a negative one is
abbrev pub part_written : ℕ → ℕ → Option ℤ → Result ℕ JobFault
part_written parts line None = Err (BadLine line)
part_written parts line (Some (pos n)) = if nat_lt n parts then Ok n else Err (PartTooBig line)
part_written parts line (Some (negsuc n)) = Err (BadLine line)

unfoldable pub part_of : ℕ → ℕ × List ℕ → Result ℕ JobFault
part_of parts line = do
  word ← or_bad_line line.0 (one_of (words_of line.1))
  part_written parts line.0 (written word)

unfoldable pub labels_of : ℕ → ℕ → List ℕ → Result (List ℕ) JobFault
labels_of tets parts bytes = do
  labels ← each (part_of parts) (numbered_lines bytes)
  if length labels == tets then Ok labels else Err (WrongCount (length labels) tets)
