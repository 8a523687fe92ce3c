use Rattle.std.proofs.Common.{◌≡◌, ◌++◌, drop}
use Rattle.part_store.specs.Agreement.{around}
use Rattle.part_store.specs.Labelled.{labelled}
use Rattle.part_store.proofs.around.push_own.Given as goal

-- those so far, and those of the tetrahedra that are left
abbrev pub invariant-loop-tet : goal.invariant-loop-tet
invariant-loop-tet l =
    l.into.items ++ around l.corners (labelled l.part (drop l.tet-index l.own)) ≡ l.fn.into.items ++ around l.corners (labelled l.part l.own)
