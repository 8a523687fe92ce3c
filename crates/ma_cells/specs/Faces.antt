-- Corners, edges and faces of a cell, which is listed by its corners in ascending order.
use Rattle.std.specs.Prelude.{ℕ, zero, suc, Bool, List, [], ◌∷◌, ◌++◌, map}
use Rattle.std.specs.List.{list_all}
use Rattle.ma_geom.specs.Coordinates.{Coordinates, place_cmp}
use Rattle.ma_cells.specs.Ascending.{has}

-- all ways to take so many of the items, each in the order of the list, and those with an earlier item first
abbrev pub choices : {K : Type 0} → ℕ → List K → List (List K)
choices zero xs = [] ∷ []
choices (suc n) [] = []
choices (suc n) (x ∷ xs) = map (λ rest. x ∷ rest) (choices n xs) ++ choices (suc n) xs

-- the pairs of corners: of four corners 01, 02, 03, 12, 13 and 23
abbrev pub edges_of : List Coordinates → List (List Coordinates)
edges_of corners = choices 2 corners

-- the triples of corners: of four corners 012, 013, 023 and 123
abbrev pub faces_of : List Coordinates → List (List Coordinates)
faces_of corners = choices 3 corners

-- whether each of the places is a corner
abbrev pub holds_all : List Coordinates → List Coordinates → Bool
holds_all corners places = list_all (λ place. has place_cmp place corners) places
