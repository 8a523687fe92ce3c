use Rattle.std.proofs.Common.{◌+◌, ◌≤◌, max}
use Rattle.overlap_check.specs.steps.Cubes.{Adds, IsInBlock}
use Rattle.overlap_check.proofs.cubes.push_slab.Given as goal

-- the slab so far
abbrev pub invariant-loop-y : goal.invariant-loop-y
invariant-loop-y l = record {
  adds : Adds l.fn.touches.items l.touches.items (IsInBlock l.x (l.x + 1) l.ys.start l.y l.zs.start l.zs.end l.tet);
  bound : l.y ≤ max l.ys.start l.ys.end;
}
