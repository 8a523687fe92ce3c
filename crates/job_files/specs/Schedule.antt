-- The schedule file: a pick in each line.
--     pick_of         what a line says
--     schedule_of     what the file says
use Rattle.std.specs.Prelude.{ℕ, List, Result, Ok, Err}
use Rattle.carrier.specs.Schedule.{Picks}
use Rattle.ma_text.specs.declared.number.NumberFault.{NumberFault}
use Rattle.ma_text.specs.Lines.{numbered_lines}
use Rattle.ma_text.specs.Numbers.{natural_of}
use Rattle.ma_text.specs.Words.{words_of}
use Rattle.msh_read.specs.Lines.{one_of}
use Rattle.msh_read.specs.Trying.{◌>>=◌, each}
use Rattle.job_files.specs.declared.fault.JobFault.{JobFault}
use Rattle.job_files.specs.declared.fault.JobFault.TheVariants.{BadLine}
use Rattle.job_files.specs.Answer.{or_bad_line}

abbrev pub pick_read : ℕ → Result ℕ NumberFault → Result ℕ JobFault
pick_read line (Ok n) = Ok n
pick_read line (Err fault) = Err (BadLine line)

unfoldable pub pick_of : ℕ × List ℕ → Result ℕ JobFault
pick_of line = do
  word ← or_bad_line line.0 (one_of (words_of line.1))
  pick_read line.0 (natural_of word)

unfoldable pub schedule_of : List ℕ → Result Picks JobFault
schedule_of bytes = do
  picks ← each pick_of (numbered_lines bytes)
  Ok (record { picks = picks; next = 0 })
