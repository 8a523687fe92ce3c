-- What the code asks of one mark after the other. No public contract names these.
use Rattle.std.specs.Prelude.{ℕ, min, Bool, true, false, not, ◌&&◌, ◌||◌, List, [], ◌∷◌, Option, Some, None}
use Rattle.std.specs.List.{list_all, list_any}
use Rattle.std.specs.Ordering.{eq_by_cmp}
use Rattle.ma_geom.specs.Coordinates.{Coordinates, place_cmp}
use Rattle.ma_geom.specs.Lines.{between, collinear, coplanar}
use Rattle.ma_geom.specs.Quality.{quality}
use Rattle.ma_geom.specs.Signs.{same_sign, side_of}
use Rattle.ma_geom.specs.Turns.{same_turn}
use Rattle.ma_geom.specs.declared.signs.Sign.TheVariants.{Zero}
use Rattle.ma_cells.specs.Ascending.{has}
use Rattle.ma_cells.specs.Cells.{CellMark}
use Rattle.ma_cells.specs.Tetrahedron.{Tetrahedron}
use Rattle.ma_cells.specs.Worst.{least}
use Rattle.size_marks.specs.Field.{Field, is_long}
use Rattle.cavity_collapse.specs.Collapsing.{is_same}
use Rattle.cavity_collapse.specs.Curves.{tagged_end}
use Rattle.cavity_collapse.specs.Surfaces.{across, tagged_third}

-- whether there is one and it passes
abbrev pub some_passes : {X : Type 0} → (X → Bool) → Option X → Bool
some_passes test (Some x) = test x
some_passes test None = false

-- whether there is none or it passes
abbrev pub each_passes : {X : Type 0} → (X → Bool) → Option X → Bool
each_passes test (Some x) = test x
each_passes test None = true

-- whether n is a segment from a to v with the tag of m
abbrev pub leads_to : (a v : Coordinates) → (m n : CellMark) → Bool
leads_to a v m n = some_passes (eq_by_cmp place_cmp v) (tagged_end a m n)

-- whether n leads to v or c, if it is a segment at a with the tag of m
abbrev pub ends_within : (a v c : Coordinates) → (m n : CellMark) → Bool
ends_within a v c m n = each_passes (λ end. is_same end v || is_same end c) (tagged_end a m n)

-- whether n is such a segment, straight across a from v, and there are no others but to v
abbrev pub goes_straight : List CellMark → (a v : Coordinates) → (m n : CellMark) → Bool
goes_straight marks a v m n = some_passes (λ c. between c a v && list_all (ends_within a v c m) marks) (tagged_end a m n)

abbrev pub curve_goes_straight : List CellMark → (a v : Coordinates) → CellMark → Bool
curve_goes_straight marks a v m = list_any (leads_to a v m) marks && list_any (goes_straight marks a v m) marks

-- whether n has y or z as its third corner, if it is a triangle on a x with the tag of m in the plane of y
abbrev pub wing_within : (a x y z : Coordinates) → (m n : CellMark) → Bool
wing_within a x y z m n = each_passes (λ w. not (coplanar a x y w) || (is_same w y || is_same w z)) (tagged_third a x m n)

-- whether n is such a triangle, on the other side than y, and there are no others but that with y
abbrev pub lies_beyond : List CellMark → (a x y : Coordinates) → (m n : CellMark) → Bool
lies_beyond marks a x y m n =
    some_passes (λ z. coplanar a x y z && (same_turn (a ∷ x ∷ y ∷ []) (x ∷ a ∷ z ∷ []) && list_all (wing_within a x y z m) marks)) (tagged_third a x m n)

abbrev pub edge_goes_on : List CellMark → (a v : Coordinates) → CellMark → (x y : Coordinates) → Bool
edge_goes_on marks a v m x y = collinear a x v || list_any (lies_beyond marks a x y m) marks

abbrev pub surface_goes_on : List CellMark → (a v : Coordinates) → CellMark → Bool
surface_goes_on marks a v m = each_passes (λ rim. edge_goes_on marks a v m rim.0 rim.1 && edge_goes_on marks a v m rim.1 rim.0) (across a m.cell)

abbrev pub turn_is_kept : (a v : Coordinates) → CellMark → Bool
turn_is_kept a v m = each_passes (λ rim. has place_cmp v (rim.0 ∷ rim.1 ∷ []) || same_turn (a ∷ rim.0 ∷ rim.1 ∷ []) (v ∷ rim.0 ∷ rim.1 ∷ [])) (across a m.cell)

-- the least of what there may be and one more
abbrev pub lesser : Option ℕ → ℕ → ℕ
lesser (Some n) m = min n m
lesser None m = m

-- the least quality so far, with that of one more, if there is one
abbrev pub worst_with : Option ℕ → Option Tetrahedron → Option ℕ
worst_with worst (Some tet) = Some (lesser worst (quality tet.corners))
worst_with worst None = worst

-- the least of what there may be and others
abbrev pub least_with : Option ℕ → List ℕ → ℕ
least_with (Some n) ns = least (n ∷ ns)
least_with None ns = least ns

-- whether a face has v, or v lies off its plane
abbrev pub lies_off : Coordinates → List Coordinates → Bool
lies_off v face = has place_cmp v face || not (same_sign (side_of face v) Zero)

-- the least so far, with one more, if there is one
abbrev pub with_quality : Option ℕ → Option ℕ → Option ℕ
with_quality worst (Some quality) = Some (lesser worst quality)
with_quality worst None = worst

-- whether an edge from v to x isn't long, or no tetrahedron that lacks v has x
abbrev pub edge_stays_short : Field → List Tetrahedron → (v x : Coordinates) → Bool
edge_stays_short field star v x = not (is_long field v x) || list_all (λ tet. has place_cmp v tet.corners || not (has place_cmp x tet.corners)) star
