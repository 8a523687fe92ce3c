use Rattle.std.proofs.Common.{◌≡◌, length}
use Rattle.ma_text.specs.Lines.{numbered_lines}
use Rattle.msh_read.specs.Trying.{each}
use Rattle.msh_read.proofs.Each.{behind}
use Rattle.job_files.specs.Schedule.{pick_of}
use Rattle.job_files.proofs.schedule.read_picks.Given as goal

abbrev pub invariant-loop-line : goal.invariant-loop-line
invariant-loop-line l = behind l.picks.items (each pick_of l.lines.lines) ≡ each pick_of (numbered_lines l.bytes)

abbrev pub decreases-loop-line : goal.decreases-loop-line
decreases-loop-line l = length l.lines.lines
