use Rattle.overlap_check.specs.steps.Cubes.{AreNoPartners}
use Rattle.overlap_check.proofs.overlaps.overlaps_later.Given as goal

abbrev pub invariant-loop-other : goal.invariant-loop-other
invariant-loop-other l = AreNoPartners l.cubes.shift l.tets l.boxes l.touch l.later l.other-index
