use Rattle.std.proofs.Common.{◌≡◌, ◌++◌, drop}
use Rattle.std.specs.List.{flat_map}
use Rattle.ma_cells.specs.Faces.{choices}
use Rattle.legal_moves.proofs.spots.faces_of.Given as goal

-- the faces so far, and those of the tetrahedra that are left
abbrev pub invariant-loop-tet : goal.invariant-loop-tet
invariant-loop-tet l = l.faces.items ++ flat_map (λ tet. choices 3 tet.corners) (drop l.tet-index l.tets) ≡ flat_map (λ tet. choices 3 tet.corners) l.tets
