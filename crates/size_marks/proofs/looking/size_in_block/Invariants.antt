use Rattle.size_marks.specs.steps.Slabs.{MasksHolders}
use Rattle.size_marks.proofs.looking.size_in_block.Given as goal

-- the bits that are left are set at all boxes that hold the place
abbrev pub invariant-loop-left : goal.invariant-loop-left
invariant-loop-left l = MasksHolders l.boxes l.left l.p

abbrev pub decreases-loop-left : goal.decreases-loop-left
decreases-loop-left l = l.left
