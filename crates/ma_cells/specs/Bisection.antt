-- Bisecting cells at an edge between two different places a and b, whose midpoint is m.
use Rattle.std.specs.Prelude.{List, [], ◌∷◌, map, if◌then◌else◌}
use Rattle.std.specs.Ordering.{eq_by_cmp}
use Rattle.ma_geom.specs.Coordinates.{Coordinates, place_cmp}
use Rattle.ma_cells.specs.Ascending.{ascending_of}
use Rattle.ma_cells.specs.Faces.{holds_all}
use Rattle.ma_cells.specs.Tetrahedron.{Tetrahedron}

-- the corners with m in the place of a, in ascending order
abbrev pub replaced : (a m : Coordinates) → List Coordinates → List Coordinates
replaced a m corners = ascending_of place_cmp (map (λ p. if eq_by_cmp place_cmp a p then m else p) corners)

-- the two halves of a cell that has the edge: m in the place of a, and m in the place of b. Another cell stays
abbrev pub bisect : (a b m : Coordinates) → List Coordinates → List (List Coordinates)
bisect a b m corners =
    if holds_all corners (a ∷ b ∷ []) then replaced a m corners ∷ replaced b m corners ∷ [] else corners ∷ []

-- the same of a tetrahedron: both halves keep its region
abbrev pub bisect_tet : (a b m : Coordinates) → Tetrahedron → List Tetrahedron
bisect_tet a b m tet = map (λ corners. record tet { corners = corners }) (bisect a b m tet.corners)
