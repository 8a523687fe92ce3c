use Rattle.std.proofs.Common.{◌≡◌, true, take}
use Rattle.std.specs.List.{AllByRecursion}
use Rattle.ma_cells.specs.Tetrahedron.{are_corners}
use Rattle.world_run.proofs.starting.tell_solid.Given as goal

-- the tetrahedra so far aren't flat
abbrev pub invariant-loop-tet : goal.invariant-loop-tet
invariant-loop-tet l = AllByRecursion (λ tet. are_corners tet.corners ≡ true) (take l.tet-index l.tets)
