use Rattle.std.proofs.Common.{◌≡◌, ◌++◌, drop}
use Rattle.part_store.specs.Labelled.{labelled}
use Rattle.part_store.proofs.batches.push_labelled.Given as goal

-- those so far, and those that are left
abbrev pub invariant-loop-tet : goal.invariant-loop-tet
invariant-loop-tet l = l.into.items ++ labelled l.label (drop l.tet-index l.tets) ≡ l.fn.into.items ++ labelled l.label l.tets
