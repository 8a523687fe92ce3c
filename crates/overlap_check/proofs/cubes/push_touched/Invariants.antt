use Rattle.std.proofs.Common.{◌≤◌, max}
use Rattle.overlap_check.specs.steps.Cubes.{Adds, IsInBlock}
use Rattle.overlap_check.proofs.cubes.push_touched.Given as goal

-- the block so far
abbrev pub invariant-loop-x : goal.invariant-loop-x
invariant-loop-x l = record {
  adds : Adds l.fn.touches.items l.touches.items (IsInBlock l.initial.x l.x l.ys.start l.ys.end l.zs.start l.zs.end l.tet);
  bound : l.x ≤ max l.initial.x l.x-end;
}
