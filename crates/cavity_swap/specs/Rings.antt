-- Rings of tetrahedra around an edge. Across from the edge each of them has an edge of its own, and these go round.
use Rattle.std.specs.Prelude.{◌≡◌, Bool, true, false, ◌==◌, ◌&&◌, ◌||◌, List, [], ◌∷◌, length, map, nat_le, if◌then◌else◌}
use Rattle.std.specs.List.{list_all, list_any}
use Rattle.std.specs.Ordering.{is_lt}
use Rattle.ma_geom.specs.Coordinates.{Coordinates, place_cmp}
use Rattle.ma_cells.specs.Ascending.{are_distinct, ascending_of}
use Rattle.ma_cells.specs.Stars.{besides}
use Rattle.ma_cells.specs.Tetrahedron.{Tetrahedron, tet_cmp}
use Rattle.cavity_collapse.specs.Collapsing.{is_same}

-- the ends of an edge, and the corners around it in cyclic order
pub record RingAround : Type 0 where
  pub ends : List Coordinates
  pub corners : List Coordinates

-- the ends of an edge, the lesser first
abbrev pub in_order : (a b : Coordinates) → List Coordinates
in_order a b = if is_lt (place_cmp b a) then b ∷ a ∷ [] else a ∷ b ∷ []

-- what each tetrahedron has across from an edge with these ends
abbrev pub edges_across : List Coordinates → List Tetrahedron → List (List Coordinates)
edges_across ends cavity = map (λ tet. besides ends tet.corners) cavity

-- whether these are the ends of an edge
abbrev pub joins : (p q : Coordinates) → List Coordinates → Bool
joins p q (x ∷ y ∷ []) = (is_same x p && is_same y q) || (is_same x q && is_same y p)
joins p q _ = false

-- whether each place on a path is joined to the next one, and the last one to the end
abbrev pub is_path : List (List Coordinates) → Coordinates → List Coordinates → Bool
is_path edges end [] = true
is_path edges end (p ∷ []) = list_any (joins p end) edges
is_path edges end (p ∷ q ∷ rest) = list_any (joins p q) edges && is_path edges end (q ∷ rest)

-- whether an edge joins two neighbours on a path, or the last place on it and the end
abbrev pub is_along : Coordinates → List Coordinates → List Coordinates → Bool
is_along end [] edge = false
is_along end (p ∷ []) edge = joins p end edge
is_along end (p ∷ q ∷ rest) edge = joins p q edge || is_along end (q ∷ rest) edge

abbrev pub last_of : Coordinates → List Coordinates → Coordinates
last_of p [] = p
last_of p (q ∷ rest) = last_of q rest

-- whether the first place is the least, and the second is below the last
abbrev pub starts_least : List Coordinates → Bool
starts_least (p ∷ q ∷ rest) = list_all (λ r. is_lt (place_cmp p r)) (q ∷ rest) && is_lt (place_cmp q (last_of q rest))
starts_least _ = false

-- whether the edges are those between neighbours on the path that comes back to its first place
abbrev pub closes : List (List Coordinates) → List Coordinates → Bool
closes edges [] = false
closes edges (p ∷ rest) = is_path edges p (p ∷ rest) && list_all (is_along p (p ∷ rest)) edges

-- whether the edges are a single closed ring of 3 to 7 with these corners, from the least one towards the lesser of its neighbours
abbrev pub is_ring : List (List Coordinates) → List Coordinates → Bool
is_ring edges corners =
    (nat_le 3 (length corners) && nat_le (length corners) 7 && length edges == length corners) && (are_distinct place_cmp corners && (starts_least corners && closes edges corners))

abbrev pub IsRing : List (List Coordinates) → List Coordinates → Type 0
IsRing edges corners = is_ring edges corners ≡ true

-- that no corners make these a single closed ring
abbrev pub IsNoRing : List (List Coordinates) → Type 0
IsNoRing edges = (corners : List Coordinates) → is_ring edges corners ≡ false

-- that a ring is the one of these tetrahedra, as a set
abbrev pub IsRingOf : List Tetrahedron → RingAround → Type 0
IsRingOf star ring = IsRing (edges_across ring.ends (ascending_of tet_cmp star)) ring.corners

-- that these tetrahedra, as a set, are no ring around an edge with these ends
abbrev pub IsNoRingOf : List Tetrahedron → List Coordinates → Type 0
IsNoRingOf star ends = IsNoRing (edges_across ends (ascending_of tet_cmp star))

-- edges make one ring at most
abbrev pub RingsAreAlone : Type 0
RingsAreAlone = (edges : List (List Coordinates)) (r s : List Coordinates) → IsRing edges r → IsRing edges s → r ≡ s
