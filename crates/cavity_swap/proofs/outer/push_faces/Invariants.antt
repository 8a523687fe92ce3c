use Rattle.std.proofs.Common.{◌≡◌, ◌++◌, drop}
use Rattle.std.specs.List.{flat_map}
use Rattle.cavity_swap.specs.Steps.{outer_at}
use Rattle.cavity_swap.proofs.outer.push_faces.Given as goal

-- the outer faces so far, and those of the faces that are left
abbrev pub invariant-loop-face : goal.invariant-loop-face
invariant-loop-face l = l.outer.items ++ flat_map (outer_at l.cavity l.corners) (drop l.face-index l.faces) ≡ l.fn.outer.items ++ flat_map (outer_at l.cavity l.corners) l.faces
