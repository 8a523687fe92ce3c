use Rattle.std.proofs.Common.{[]}
use Rattle.overlap_check.specs.steps.Cubes.{Adds, IsTouchBefore}
use Rattle.overlap_check.proofs.cubes.touches.Given as goal

-- the touches of the boxes so far
abbrev pub invariant-loop-place : goal.invariant-loop-place
invariant-loop-place l = Adds [] l.touches.items (IsTouchBefore l.cubes.shift l.place l.boxes)
