-- Whether marked points and marked segments let a vertex a go to v.
use Rattle.std.specs.Prelude.{Bool, false, not, ◌&&◌, ◌||◌, List, [], ◌∷◌, Option, Some, None, if◌then◌else◌}
use Rattle.std.specs.List.{flat_map, list_all, list_any}
use Rattle.std.specs.Option.{option_to_list}
use Rattle.std.specs.Ordering.{int_eq}
use Rattle.ma_geom.specs.Coordinates.{Coordinates, place_cmp}
use Rattle.ma_geom.specs.Lines.{between}
use Rattle.ma_cells.specs.Ascending.{has}
use Rattle.ma_cells.specs.Cells.{CellMark}
use Rattle.ma_cells.specs.Incidence.{is_marked}
use Rattle.ma_cells.specs.declared.cell.Cell.{Cell}
use Rattle.ma_cells.specs.declared.cell.Cell.TheVariants.{Seg}
use Rattle.cavity_collapse.specs.Collapsing.{is_same}

abbrev pub same_tag : CellMark → CellMark → Bool
same_tag m n = int_eq m.phys n.phys && int_eq m.elem n.elem

-- no point is marked at a
abbrev pub is_free_point : List CellMark → Coordinates → Bool
is_free_point marks a = not (is_marked marks (a ∷ []))

abbrev pub is_segment_at : Coordinates → Cell → Bool
is_segment_at a (Seg s) = has place_cmp a s
is_segment_at a _ = false

-- the end across from an end a of a segment
abbrev pub end_across : Coordinates → List Coordinates → Option Coordinates
end_across a (p ∷ q ∷ []) = if is_same p a then Some q else if is_same q a then Some p else None
end_across a _ = None

-- the same of a cell, if it is a segment at a
abbrev pub far_end : Coordinates → Cell → Option Coordinates
far_end a (Seg s) = end_across a s
far_end a _ = None

-- the same of a mark n, if it has the tag of m
abbrev pub tagged_end : Coordinates → (m n : CellMark) → Option Coordinates
tagged_end a m n = if same_tag m n then far_end a n.cell else None

-- the other ends of the marked segments at a with the tag of m
abbrev pub curve_ends : List CellMark → Coordinates → CellMark → List Coordinates
curve_ends marks a m = flat_map (λ n. option_to_list (tagged_end a m n)) marks

-- whether these ends are v and one more, c, and a lies strictly between c and v
abbrev pub run_straight : (a v : Coordinates) → List Coordinates → Bool
run_straight a v ends = has place_cmp v ends && list_any (λ c. between c a v && list_all (λ end. is_same end v || is_same end c) ends) ends

-- for each tag, the marked segments at a with this tag, if there is one, run straight through a to v
abbrev pub curves_are_kept : List CellMark → (a v : Coordinates) → Bool
curves_are_kept marks a v = list_all (λ m. not (is_segment_at a m.cell) || run_straight a v (curve_ends marks a m)) marks
