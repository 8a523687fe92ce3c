use Rattle.std.proofs.Common.{◌≡◌, length}
use Rattle.ma_text.specs.Lines.{numbered_lines}
use Rattle.msh_read.specs.Trying.{each}
use Rattle.msh_read.proofs.Each.{behind}
use Rattle.job_files.specs.Partition.{part_of}
use Rattle.job_files.proofs.partition.read_parts.Given as goal

abbrev pub invariant-loop-line : goal.invariant-loop-line
invariant-loop-line l = behind l.labels.items (each (part_of l.parts) l.lines.lines) ≡ each (part_of l.parts) (numbered_lines l.bytes)

abbrev pub decreases-loop-line : goal.decreases-loop-line
decreases-loop-line l = length l.lines.lines
