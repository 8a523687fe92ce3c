use Rattle.std.proofs.Common.{◌≡◌, take}
use Rattle.std.specs.List.{flat_map}
use Rattle.mesh_check.specs.Marks.{sides_of}
use Rattle.mesh_check.proofs.marks.sides.Given as goal

abbrev pub invariant-loop-tet : goal.invariant-loop-tet
invariant-loop-tet l = l.sides.items ≡ flat_map sides_of (take l.tet-index l.tets)
