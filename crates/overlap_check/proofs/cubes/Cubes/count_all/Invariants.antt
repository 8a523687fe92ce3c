use Rattle.std.proofs.Common.{◌≤◌}
use Rattle.overlap_check.proofs.cubes.Cubes.count_all.Given as goal

abbrev pub invariant-loop-around : goal.invariant-loop-around
invariant-loop-around l = l.left ≤ l.most
