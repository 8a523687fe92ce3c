use Rattle.std.proofs.Common.{◌+◌, ◌≤◌, max}
use Rattle.overlap_check.specs.steps.Cubes.{Adds, IsInBlock}
use Rattle.overlap_check.proofs.cubes.push_row.Given as goal

-- the row so far
abbrev pub invariant-loop-z : goal.invariant-loop-z
invariant-loop-z l = record {
  adds : Adds l.fn.touches.items l.touches.items (IsInBlock l.x (l.x + 1) l.y (l.y + 1) l.zs.start l.z l.tet);
  bound : l.z ≤ max l.zs.start l.zs.end;
}
