use Rattle.std.proofs.Common.{◌≡◌, take}
use Rattle.std.specs.List.{flat_map}
use Rattle.ma_cells.specs.Stars.{cone}
use Rattle.cavity_swap.specs.Swapping.{outer_faces}
use Rattle.cavity_swap.proofs.filling.cones.Given as goal

abbrev pub invariant-loop-tet : goal.invariant-loop-tet
invariant-loop-tet l = l.tets.items ≡ flat_map (λ tet. flat_map (cone l.v l.first.phys l.first.elem) (outer_faces l.cavity tet)) (take l.tet-index l.cavity)
