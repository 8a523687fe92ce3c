-- What a cell becomes once it is bisected at its marked edges, one after the other.
use Rattle.std.specs.Prelude.{Bool, true, List, [], ◌∷◌, map, Option, Some, None}
use Rattle.std.specs.Cmp.Lexicographic.{slice_cmp}
use Rattle.std.specs.List.{flat_map}
use Rattle.ma_geom.specs.Coordinates.{Coordinates, place_cmp}
use Rattle.ma_geom.specs.Lines.{collinear}
use Rattle.ma_geom.specs.Midpoints.{midpoint}
use Rattle.ma_cells.specs.Ascending.{ascending_of}
use Rattle.ma_cells.specs.Bisection.{bisect}
use Rattle.ma_cells.specs.Tetrahedron.{Tetrahedron}
use Rattle.split_templates.specs.Edges.{edge_cmp}

-- the halves of a cell at the edge between a and b, once their midpoint is known. Without one the cell stays
abbrev pub halves_at : Coordinates → Coordinates → Option Coordinates → List Coordinates → List (List Coordinates)
halves_at a b (Some m) corners = bisect a b m corners
halves_at a b None corners = corners ∷ []

-- the halves of a cell that has the edge. Another cell stays
abbrev pub halves : List Coordinates → List Coordinates → List (List Coordinates)
halves (a ∷ b ∷ []) corners = halves_at a b (midpoint a b) corners
halves _ corners = corners ∷ []

-- all pieces are bisected at the first edge, what they give at the second, and so on
abbrev pub bisected_along : List (List Coordinates) → List (List Coordinates) → List (List Coordinates)
bisected_along [] pieces = pieces
bisected_along (edge ∷ edges) pieces = bisected_along edges (flat_map (halves edge) pieces)

-- the pieces of a cell with these marked edges, as an ascending list: the longest edge is the first at which it is bisected
abbrev pub pieces_of : List (List Coordinates) → List Coordinates → List (List Coordinates)
pieces_of marked corners = ascending_of (slice_cmp place_cmp) (bisected_along (ascending_of edge_cmp marked) (corners ∷ []))

-- whether these are no corners of a triangle: they aren't three, or lie on one line
abbrev pub is_straight : List Coordinates → Bool
is_straight (a ∷ b ∷ c ∷ []) = collinear a b c
is_straight _ = true

-- the same of a tetrahedron: each piece keeps its region
abbrev pub tets_of : List (List Coordinates) → Tetrahedron → List Tetrahedron
tets_of marked tet = map (λ corners. record tet { corners = corners }) (pieces_of marked tet.corners)
