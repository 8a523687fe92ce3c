use Rattle.std.proofs.Common.{◌≡◌, ◌++◌, drop}
use Rattle.part_store.specs.Labelled.{labelled}
use Rattle.part_vote.proofs.cavities.labelled.Given as goal

-- those so far, and those of the tetrahedra that are left
abbrev pub invariant-loop-tet : goal.invariant-loop-tet
invariant-loop-tet l = l.entries.items ++ labelled l.part (drop l.tet-index l.tets) ≡ labelled l.part l.tets
