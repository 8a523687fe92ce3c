use Rattle.std.proofs.Common.{◌≡◌, ◌<◌, true, List, [], ◌∷◌, length, refl, arith}
use Rattle.ma_geom.specs.Coordinates.{Coordinates, place_cmp}
use Rattle.ma_cells.specs.Ascending.{are_ascending}
use Rattle.ma_cells.proofs.tet.+are_ascending.Goals as goal

at_most_one : (places : List Coordinates) → length places < 2 → true ≡ are_ascending place_cmp places
at_most_one [] h = refl
at_most_one (p ∷ []) h = refl
at_most_one (p ∷ q ∷ places) h = absurd (omega arith)

pub returns-in_default : goal.returns-in_default
returns-in_default t c = at_most_one c.args.places.now c.in_default.len_below
