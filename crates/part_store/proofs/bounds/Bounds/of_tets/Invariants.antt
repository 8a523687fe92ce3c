use Rattle.std.proofs.Common.{◌≡◌, drop}
use Rattle.part_store.specs.steps.Boxes.{with_tets}
use Rattle.part_store.specs.declared.bounds.Bounds.TheVariants.{Nothing}
use Rattle.part_store.proofs.bounds.Bounds.of_tets.Given as goal

-- the box so far, with the tetrahedra that are left
abbrev pub invariant-loop-tet : goal.invariant-loop-tet
invariant-loop-tet l = with_tets l.bounds (drop l.tet-index l.tets) ≡ with_tets Nothing l.tets
