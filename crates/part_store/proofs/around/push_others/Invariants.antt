use Rattle.std.proofs.Common.{◌≡◌, ◌++◌, drop}
use Rattle.part_store.specs.Agreement.{around}
use Rattle.part_store.proofs.around.push_others.Given as goal

-- those so far, and those of the others that are left
abbrev pub invariant-loop-other : goal.invariant-loop-other
invariant-loop-other l =
    l.into.items ++ around l.corners (drop l.other-index l.others) ≡ l.fn.into.items ++ around l.corners l.others
