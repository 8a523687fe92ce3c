use Rattle.std.proofs.Common.{◌≡◌, drop}
use Rattle.part_store.specs.Agreement.{first_of, residents}
use Rattle.part_store.specs.steps.Owners.{lesser}
use Rattle.part_store.proofs.around.least_label.Given as goal

-- the least so far, and the least of those that are left
abbrev pub invariant-loop-other : goal.invariant-loop-other
invariant-loop-other l =
    lesser l.least (first_of (residents l.cell (drop l.other-index l.others)))
    ≡ first_of (residents l.cell l.others)
