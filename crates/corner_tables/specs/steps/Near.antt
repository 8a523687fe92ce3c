-- How the code looks a place up in a table. No public contract names these.
use Rattle.std.specs.Prelude.{ℕ, Bool, not, List, [], ◌∷◌, ◌++◌, drop, filter, take}
use Rattle.std.specs.Ordering.{is_lt}
use Rattle.ma_geom.specs.Coordinates.{Coordinates, place_cmp}
use Rattle.corner_tables.specs.declared.table.Corner.{Corner}

abbrev pub not_below : Coordinates → Corner → Bool
not_below place c = not (is_lt (place_cmp c.place place))

abbrev pub not_above : Coordinates → Corner → Bool
not_above place c = not (is_lt (place_cmp place c.place))

-- the corners at a place
abbrev pub near : Coordinates → List Corner → List Corner
near place corners = filter (not_above place) (filter (not_below place) corners)

-- the items at these positions
abbrev pub picked : {X : Type 0} → List X → List ℕ → List X
picked xs [] = []
picked xs (i ∷ is) = take 1 (drop i xs) ++ picked xs is
