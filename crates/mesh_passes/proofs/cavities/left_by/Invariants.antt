use Rattle.std.proofs.Common.{◌≡◌, ◌++◌, drop}
use Rattle.mesh_passes.specs.Taking.{left_by}
use Rattle.mesh_passes.proofs.cavities.left_by.Given as goal

-- those so far, and those of the tetrahedra that are to come
abbrev pub invariant-loop-i : goal.invariant-loop-i
invariant-loop-i l = l.left.items ++ left_by (drop l.i l.taken) (drop l.i l.tets) ≡ left_by l.taken l.tets
