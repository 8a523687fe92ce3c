use Rattle.std.proofs.Common.{◌≡◌, drop}
use Rattle.ma_cells.specs.Worst.{least}
use Rattle.cavity_collapse.specs.Facing.{cone_qualities}
use Rattle.cavity_collapse.specs.Steps.{least_with}
use Rattle.cavity_collapse.proofs.filling.worst_over.Given as goal

-- the least so far, and those of the rest
abbrev pub invariant-loop-one : goal.invariant-loop-one
invariant-loop-one l = least_with l.worst (cone_qualities l.v (drop l.one-index l.faces)) ≡ least (cone_qualities l.v l.faces)
