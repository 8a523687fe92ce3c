use Rattle.std.proofs.Common.{◌≡◌, ◌∷◌, ◌++◌, decimal, flat_map, take}
use Rattle.msh_write.specs.Text.{number_among}
use Rattle.msh_write.proofs.elements.put_corners.Given as goal

abbrev pub invariant-loop-corner : goal.invariant-loop-corner
invariant-loop-corner l =
    l.out.items ≡ l.fn.out.items ++ flat_map (λ corner. 32 ∷ decimal (number_among l.nodes corner)) (take l.corner-index l.corners)
