use Rattle.std.proofs.Common.{◌≡◌, ◌++◌, drop}
use Rattle.std.specs.List.{flat_map}
use Rattle.ma_cells.specs.Faces.{choices}
use Rattle.legal_moves.proofs.spots.edges_of.Given as goal

-- the edges so far, and those of the tetrahedra that are left
abbrev pub invariant-loop-tet : goal.invariant-loop-tet
invariant-loop-tet l = l.edges.items ++ flat_map (λ tet. choices 2 tet.corners) (drop l.tet-index l.tets) ≡ flat_map (λ tet. choices 2 tet.corners) l.tets
