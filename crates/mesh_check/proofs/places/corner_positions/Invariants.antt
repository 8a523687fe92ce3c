use Rattle.std.proofs.Common.{◌≡◌, take}
use Rattle.std.specs.List.{flat_map}
use Rattle.mesh_check.proofs.places.corner_positions.Given as goal

abbrev pub invariant-loop-tet : goal.invariant-loop-tet
invariant-loop-tet l = l.positions.items ≡ flat_map (λ tet. tet.at) (take l.tet-index l.tets)
