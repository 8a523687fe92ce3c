-- Whether marked triangles let a vertex a go to v.
use Rattle.std.specs.Prelude.{Bool, false, not, ◌&&◌, ◌||◌, List, [], ◌∷◌, Option, Some, None, filter, if◌then◌else◌}
use Rattle.std.specs.List.{flat_map, list_all, list_any}
use Rattle.std.specs.Option.{option_to_list}
use Rattle.ma_geom.specs.Coordinates.{Coordinates, place_cmp}
use Rattle.ma_geom.specs.Lines.{collinear, coplanar}
use Rattle.ma_geom.specs.Turns.{same_turn}
use Rattle.ma_cells.specs.Ascending.{has}
use Rattle.ma_cells.specs.Cells.{CellMark, corners_of}
use Rattle.ma_cells.specs.Faces.{holds_all}
use Rattle.ma_cells.specs.declared.cell.Cell.{Cell}
use Rattle.ma_cells.specs.declared.cell.Cell.TheVariants.{Tri}
use Rattle.cavity_collapse.specs.Collapsing.{is_same}
use Rattle.cavity_collapse.specs.Curves.{same_tag}

abbrev pub is_triangle_at : Coordinates → Cell → Bool
is_triangle_at a (Tri t) = has place_cmp a t
is_triangle_at a _ = false

-- whether v lies in the plane of a triangle
abbrev pub lies_in_plane : Coordinates → List Coordinates → Bool
lies_in_plane v (p ∷ q ∷ r ∷ []) = coplanar p q r v
lies_in_plane v _ = false

-- v lies in the plane of each marked triangle at a
abbrev pub planes_are_kept : List CellMark → (a v : Coordinates) → Bool
planes_are_kept marks a v = list_all (λ m. not (is_triangle_at a m.cell) || lies_in_plane v (corners_of m.cell)) marks

-- the two corners across from a corner a of a triangle
abbrev pub corners_across : Coordinates → List Coordinates → Option (Coordinates × Coordinates)
corners_across a (p ∷ q ∷ r ∷ []) = if is_same p a then Some (q, r) else if is_same q a then Some (p, r) else if is_same r a then Some (p, q) else None
corners_across a _ = None

-- the same of a cell that is a triangle at a
abbrev pub across : Coordinates → Cell → Option (Coordinates × Coordinates)
across a (Tri t) = corners_across a t
across a _ = None

-- the corner across from an edge a x of a triangle
abbrev pub corner_beyond : (a x : Coordinates) → List Coordinates → Option Coordinates
corner_beyond a x (p ∷ q ∷ r ∷ []) =
    if holds_all (p ∷ q ∷ []) (a ∷ x ∷ []) then Some r else if holds_all (p ∷ r ∷ []) (a ∷ x ∷ []) then Some q else if holds_all (q ∷ r ∷ []) (a ∷ x ∷ []) then Some p else None
corner_beyond a x _ = None

-- the same of a cell that is a triangle on a x
abbrev pub third : (a x : Coordinates) → Cell → Option Coordinates
third a x (Tri t) = corner_beyond a x t
third a x _ = None

-- the same of a mark n, if it has the tag of m
abbrev pub tagged_third : (a x : Coordinates) → (m n : CellMark) → Option Coordinates
tagged_third a x m n = if same_tag m n then third a x n.cell else None

-- the third corners of the marked triangles on the edge a x that have the tag of m and lie in the plane of a, x and y
abbrev pub wings : List CellMark → (a x y : Coordinates) → CellMark → List Coordinates
wings marks a x y m = filter (coplanar a x y) (flat_map (λ n. option_to_list (tagged_third a x m n)) marks)

-- whether triangles on the edge a x in one plane, by their third corners, are that with y and one on the other side of the edge
abbrev pub are_on_both_sides : (a x y : Coordinates) → List Coordinates → Bool
are_on_both_sides a x y thirds = list_any (λ z. same_turn (a ∷ x ∷ y ∷ []) (x ∷ a ∷ z ∷ []) && list_all (λ w. is_same w y || is_same w z) thirds) thirds

-- whether the edge a x of a marked triangle with the third corner y is on the line to v, or has triangles of the same surface on both sides
abbrev pub edge_is_kept : List CellMark → (a v : Coordinates) → CellMark → (x y : Coordinates) → Bool
edge_is_kept marks a v m x y = collinear a x v || are_on_both_sides a x y (wings marks a x y m)

-- for each tag and each plane, the marked triangles at a with this tag in this plane have no rim at a but along the line to v
abbrev pub surfaces_are_kept : List CellMark → (a v : Coordinates) → Bool
surfaces_are_kept marks a v =
    list_all (λ m. list_all (λ rim. edge_is_kept marks a v m rim.0 rim.1 && edge_is_kept marks a v m rim.1 rim.0) (option_to_list (across a m.cell))) marks

-- a marked triangle at a without v turns the same way once a is at v
abbrev pub turns_are_kept : List CellMark → (a v : Coordinates) → Bool
turns_are_kept marks a v =
    list_all (λ m. list_all (λ rim. has place_cmp v (rim.0 ∷ rim.1 ∷ []) || same_turn (a ∷ rim.0 ∷ rim.1 ∷ []) (v ∷ rim.0 ∷ rim.1 ∷ [])) (option_to_list (across a m.cell))) marks
