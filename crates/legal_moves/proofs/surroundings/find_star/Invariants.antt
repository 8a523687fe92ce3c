use Rattle.std.proofs.Common.{◌≡◌, ◌++◌, drop}
use Rattle.ma_cells.specs.Stars.{star_of}
use Rattle.legal_moves.proofs.surroundings.find_star.Given as goal

-- those so far, and those of the tetrahedra that are left
abbrev pub invariant-loop-tet : goal.invariant-loop-tet
invariant-loop-tet l = l.into.items ++ star_of l.at (drop l.tet-index l.tets) ≡ star_of l.at l.tets
