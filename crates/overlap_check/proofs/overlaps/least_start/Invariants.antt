use Rattle.overlap_check.specs.steps.Cubes.{AreNotBefore}
use Rattle.overlap_check.specs.steps.Pairs.{IsStart}
use Rattle.overlap_check.proofs.overlaps.least_start.Given as goal

abbrev pub invariant-loop-i : goal.invariant-loop-i
invariant-loop-i l = record {
  start : IsStart l.tets l.least;
  least : AreNotBefore l.cubes.shift l.tets l.boxes l.touches l.i l.least;
}
