use Rattle.std.proofs.Common.{◌≡◌, ◌++◌, drop, map}
use Rattle.std.specs.List.{flat_map}
use Rattle.cavity_swap.specs.Outer.{outer_of, with_corners}
use Rattle.cavity_swap.specs.Swapping.{outer_faces}
use Rattle.cavity_swap.proofs.outer.find_outer.Given as goal

-- the outer faces so far, and those of the tetrahedra that are left
abbrev pub invariant-loop-tet : goal.invariant-loop-tet
invariant-loop-tet l = l.outer.items ++ flat_map (λ tet. map (with_corners tet.corners) (outer_faces l.cavity tet)) (drop l.tet-index l.cavity) ≡ outer_of l.cavity
