use Rattle.std.proofs.Common.{◌≡◌, ◌≤◌, length}
use Rattle.std.specs.List.{enumerate_from}
use Rattle.msh_read.specs.Trying.{each}
use Rattle.msh_read.proofs.Each.{behind}
use Rattle.job_files.specs.Sizes.{further_of}
use Rattle.job_files.proofs.sizes.read_boxes.Given as goal

abbrev pub invariant-loop-line : goal.invariant-loop-line
invariant-loop-line l = record {
  few : l.before ≤ 10000;
  read : behind l.field.boxes (each further_of (enumerate_from l.before l.lines.lines)) ≡ each further_of (enumerate_from 0 l.fn.lines.lines);
  default : l.field.default ≡ l.fn.field.default;
}

abbrev pub decreases-loop-line : goal.decreases-loop-line
decreases-loop-line l = length l.lines.lines
