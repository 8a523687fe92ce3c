use Rattle.std.proofs.Common.{◌≡◌, ◌++◌, drop}
use Rattle.std.specs.List.{flat_map}
use Rattle.ma_geom.specs.Coordinates.{place_cmp}
use Rattle.ma_cells.specs.Ascending.{ascending_of}
use Rattle.legal_moves.proofs.Joined.{unless_at}
use Rattle.legal_moves.proofs.surroundings.push_besides.Given as goal

-- as a set: the corners so far, and those that are left
abbrev pub invariant-loop-place : goal.invariant-loop-place
invariant-loop-place l = ascending_of place_cmp (l.places.items ++ flat_map (unless_at l.at) (drop l.place-index l.corners)) ≡ ascending_of place_cmp (l.fn.places.items ++ flat_map (unless_at l.at) l.corners)
