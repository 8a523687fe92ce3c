use Rattle.std.proofs.Common.{◌≡◌, ◌++◌, drop}
use Rattle.std.specs.List.{flat_map}
use Rattle.ma_geom.specs.Coordinates.{place_cmp}
use Rattle.ma_cells.specs.Ascending.{ascending_of}
use Rattle.ma_cells.specs.Stars.{besides}
use Rattle.legal_moves.proofs.surroundings.push_others.Given as goal

-- as a set: the corners so far, and those of the tetrahedra that are left
abbrev pub invariant-loop-tet : goal.invariant-loop-tet
invariant-loop-tet l =
    ascending_of place_cmp (l.places.items ++ flat_map (λ tet. besides l.at tet.corners) (drop l.tet-index l.star)) ≡ ascending_of place_cmp (l.fn.places.items ++ flat_map (λ tet. besides l.at tet.corners) l.star)
