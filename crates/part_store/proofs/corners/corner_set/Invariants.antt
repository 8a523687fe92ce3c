use Rattle.std.proofs.Common.{◌≡◌, ◌++◌, drop}
use Rattle.std.specs.List.{flat_map}
use Rattle.part_store.proofs.corners.corner_set.Given as goal

-- the corners so far, and those of the tetrahedra that are left
abbrev pub invariant-loop-tet : goal.invariant-loop-tet
invariant-loop-tet l = l.places.items ++ flat_map (λ tet. tet.corners) (drop l.tet-index l.tets) ≡ flat_map (λ tet. tet.corners) l.tets
