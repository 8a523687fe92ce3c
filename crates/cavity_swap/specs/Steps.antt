-- The way of the code around a ring and over the faces of a cavity. No public contract names these.
use Rattle.std.specs.Prelude.{ℕ, Bool, not, ◌==◌, ◌||◌, ◌&&◌, nat_lt, List, [], ◌∷◌, length, Option, Some, None, if◌then◌else◌}
use Rattle.std.specs.List.{list_all}
use Rattle.std.specs.Ordering.{is_lt}
use Rattle.ma_geom.specs.Coordinates.{Coordinates, place_cmp}
use Rattle.ma_geom.specs.Quality.{quality}
use Rattle.ma_geom.specs.Signs.{same_sign, side_of}
use Rattle.ma_cells.specs.Ascending.{has}
use Rattle.ma_cells.specs.Faces.{faces_of}
use Rattle.ma_cells.specs.Tetrahedron.{Tetrahedron, tetrahedron_of}
use Rattle.cavity_collapse.specs.Collapsing.{is_same}
use Rattle.cavity_collapse.specs.Curves.{end_across}
use Rattle.cavity_collapse.specs.Steps.{each_passes, worst_with}
use Rattle.cavity_swap.specs.Swapping.{had_by}
use Rattle.cavity_swap.specs.declared.outer.OuterFace.{OuterFace}

abbrev pub is_pair : List Coordinates → Bool
is_pair places = length places == 2

abbrev pub unless_same : Option Coordinates → Coordinates → Option Coordinates → Option Coordinates
unless_same None p other = other
unless_same (Some d) p other = if is_same d p then other else Some d

-- the place after p and c: the first that an edge joins with c, besides p
abbrev pub next : Coordinates → Coordinates → List (List Coordinates) → Option Coordinates
next p c [] = None
next p c (edge ∷ edges) = unless_same (end_across c edge) p (next p c edges)

abbrev pub lesser : Option Coordinates → Option Coordinates → Option Coordinates
lesser None b = b
lesser (Some p) None = Some p
lesser (Some p) (Some q) = if is_lt (place_cmp q p) then Some q else Some p

abbrev pub least_end : List Coordinates → Option Coordinates
least_end (x ∷ y ∷ []) = lesser (Some x) (Some y)
least_end _ = None

abbrev pub least_corner : List (List Coordinates) → Option Coordinates
least_corner [] = None
least_corner (edge ∷ edges) = lesser (least_end edge) (least_corner edges)

abbrev pub least_next : Coordinates → List (List Coordinates) → Option Coordinates
least_next c [] = None
least_next c (edge ∷ edges) = lesser (end_across c edge) (least_next c edges)

-- the places after c that a walk comes to, at most as many as the fuel has items, where it goes on to this one, if there is one
abbrev pub followed : List (List Coordinates) → List (List Coordinates) → Coordinates → Option Coordinates → List Coordinates
followed [] edges c n = []
followed (one ∷ fuel) edges c None = []
followed (one ∷ fuel) edges c (Some n) = n ∷ followed fuel edges n (next c n edges)

abbrev pub walked_on : List (List Coordinates) → List (List Coordinates) → Coordinates → Option Coordinates → List Coordinates
walked_on fuel edges a None = []
walked_on fuel edges a (Some b) = a ∷ b ∷ followed fuel edges b (next a b edges)

abbrev pub walked_from : List (List Coordinates) → List (List Coordinates) → Option Coordinates → List Coordinates
walked_from fuel edges None = []
walked_from fuel edges (Some a) = walked_on fuel edges a (least_next a edges)

abbrev pub walked : List (List Coordinates) → List Coordinates
walked (x ∷ y ∷ fuel) = walked_from fuel (x ∷ y ∷ fuel) (least_corner (x ∷ y ∷ fuel))
walked _ = []

-- the tetrahedron from v over a face that one tetrahedron of the cavity alone has
abbrev pub outer_cone : List Tetrahedron → Tetrahedron → Coordinates → List Coordinates → Option Tetrahedron
outer_cone cavity first v face = if had_by cavity face == 1 then tetrahedron_of (v ∷ face) first.phys first.elem else None

-- the least of a quality and those of the tetrahedra over these faces
abbrev pub worst_over_faces : List Tetrahedron → Tetrahedron → Coordinates → Option ℕ → List (List Coordinates) → Option ℕ
worst_over_faces cavity first v w [] = w
worst_over_faces cavity first v w (face ∷ faces) = worst_over_faces cavity first v (worst_with w (outer_cone cavity first v face)) faces

-- the same over the faces of these tetrahedra
abbrev pub worst_over : List Tetrahedron → Tetrahedron → Coordinates → Option ℕ → List Tetrahedron → Option ℕ
worst_over cavity first v w [] = w
worst_over cavity first v w (tet ∷ tets) = worst_over cavity first v (worst_over_faces cavity first v w (faces_of tet.corners)) tets

-- whether d is on a face, or v lies on its side
abbrev pub is_beside : List Coordinates → (v d : Coordinates) → Bool
is_beside face v d = has place_cmp d face || same_sign (side_of face v) (side_of face d)

-- whether a face of a tetrahedron with these corners has v or v lies on the side of the other corner
abbrev pub is_seen_from : Coordinates → (corners face : List Coordinates) → Bool
is_seen_from v corners face = has place_cmp v face || list_all (is_beside face v) corners

abbrev pub are_seen : List Tetrahedron → Coordinates → Bool
are_seen cavity v = list_all (λ tet. list_all (λ face. not (had_by cavity face == 1) || is_seen_from v tet.corners face) (faces_of tet.corners)) cavity

-- a face of the tetrahedron with these corners, if one tetrahedron of the cavity alone has it
abbrev pub outer_at : List Tetrahedron → (corners : List Coordinates) → List Coordinates → List OuterFace
outer_at cavity corners face = if had_by cavity face == 1 then record { face = face; corners = corners } ∷ [] else []

-- whether each tetrahedron from v over one of these faces is of more than this quality
abbrev pub are_above : ℕ → Tetrahedron → Coordinates → List OuterFace → Bool
are_above old first v outer = list_all (λ one. each_passes (λ tet. nat_lt old (quality tet.corners)) (tetrahedron_of (v ∷ one.face) first.phys first.elem)) outer

abbrev pub passes_from : ℕ → Tetrahedron → Coordinates → List OuterFace → Bool
passes_from old first v outer = list_all (λ one. is_seen_from v one.corners one.face) outer && are_above old first v outer
