use Rattle.std.proofs.Common.{◌≡◌, ◌++◌, None, length}
use Rattle.mesh_check.specs.steps.Neighbours.{lone_after}
use Rattle.mesh_check.proofs.lone.lone_in.Given as goal

abbrev pub invariant-loop-left : goal.invariant-loop-left
invariant-loop-left g l = l.found.items ++ lone_after g.T.Ord.cmp l.last l.left ≡ lone_after g.T.Ord.cmp None l.items

abbrev pub decreases-loop-left : goal.decreases-loop-left
decreases-loop-left g l = length l.left
