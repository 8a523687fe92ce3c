-- Marks away from the vertex don't matter.
use Rattle.std.proofs.Common.{◌≡◌, ◌≢◌, ℕ, Bool, true, false, cond, not, ◌&&◌, ◌||◌, List, [], ◌∷◌, ◌++◌, filter, refl, sym, ap, subst, ◌∙◌}
use Rattle.std.specs.Prelude.{ℤ, pos, ◌==◌}
use Rattle.std.specs.List.{flat_map}
use Rattle.std.specs.Option.{option_to_list}
use Rattle.std.specs.Ordering.{eq_by_cmp, int_eq}
use Rattle.std.proofs.lemmas.Bool.{false≢true}
use Rattle.std.proofs.lemmas.List.Concat.{flat_map-append}
use Rattle.ma_geom.specs.Coordinates.{Coordinates, place_cmp}
use Rattle.ma_cells.specs.Ascending.{are_distinct, has}
use Rattle.ma_cells.specs.Cells.{CellMark, corners_of, is_cell, mark_cmp}
use Rattle.ma_cells.specs.Faces.{holds_all}
use Rattle.ma_cells.specs.Stars.{marks_at}
use Rattle.ma_cells.specs.declared.cell.Cell.TheVariants.{Point}
use Rattle.ma_cells.proofs.CellOrders.{mark_cmp-IsAntisymmetric}
use Rattle.ma_cells.proofs.Members.{has-filter}
use Rattle.ma_cells.proofs.Passing.{all-filter, all_pass}
use Rattle.ma_cells.proofs.Permutations.{tied}
use Rattle.ma_cover.specs.Classification.{dimension, marked_cells}
use Rattle.cavity_collapse.specs.Curves.{end_across}
use Rattle.plane_laws.specs.Planes.{CanMoveInPlanes}
use Rattle.plane_laws.proofs.Items.{all_in, each, in_filter}
use Rattle.collapse_marks.specs.Marks.{MovedMarksKeepClassification}
use Rattle.moved_cells.specs.Segments.{AreStraight}
use Rattle.collapse_marks.proofs.Classified.{CellsAllow, classified_alike, one}
use Rattle.moved_cells.proofs.Moved.{eq_turned, not_and, or_parts}
use Rattle.collapse_marks.proofs.Tests.{cells_allow}
use Rattle.collapse_marks.proofs.Wings.{edges}

abbrev eq : Coordinates → Coordinates → Bool
eq = eq_by_cmp place_cmp

-- ---- a part of the marks
pub filter-distinct : (test : CellMark → Bool) (ms : List CellMark) → are_distinct mark_cmp ms ≡ true → are_distinct mark_cmp (filter test ms) ≡ true
filter-distinct test [] h = refl
filter-distinct test (m ∷ ms) h =
    let first = not_and (has mark_cmp m ms) (are_distinct mark_cmp ms) h in
    by (test m) (ap not (has-filter mark_cmp-IsAntisymmetric test m ms ∙ ap (λ b. b && test m) first.0)) (filter-distinct test ms first.1)
  where
    by : (b : Bool) → not (has mark_cmp m (filter test ms)) ≡ true → are_distinct mark_cmp (filter test ms) ≡ true → are_distinct mark_cmp (cond b (m ∷ filter test ms) (filter test ms)) ≡ true
    by true new more = rw new more
    by false new more = more

module _ {Y : Type 0} (h : List Coordinates → List Y) (a : Coordinates) (none : (s : List Coordinates) → has place_cmp a s ≡ false → h s ≡ []) (d : ℕ) (phys elem : ℤ) where
  abbrev is_at : CellMark → Bool
  is_at m = holds_all (corners_of m.cell) (a ∷ [])

  of_mark : (m : CellMark) → is_at m ≡ false → flat_map h (one d phys elem m) ≡ []
  of_mark m away = by ((dimension m.cell == d) && (int_eq m.phys phys && int_eq m.elem elem)) (none (corners_of m.cell) (and_last (has place_cmp a (corners_of m.cell)) away))
    where
      and_last : (b : Bool) → (b && true) ≡ false → b ≡ false
      and_last true e = absurd (false≢true (sym e))
      and_last false e = refl

      by : (b : Bool) → h (corners_of m.cell) ≡ [] → flat_map h (cond b (corners_of m.cell ∷ []) []) ≡ []
      by true e = ap (λ ys. ys ++ []) e
      by false e = refl

  -- marks away from a give nothing
  pub at_alone : (ms : List CellMark) → flat_map h (marked_cells d phys elem (filter is_at ms)) ≡ flat_map h (marked_cells d phys elem ms)
  at_alone [] = refl
  at_alone (m ∷ ms) = by (is_at m) refl (at_alone ms) ∙ sym (flat_map-append h (one d phys elem m) (marked_cells d phys elem ms))
    where
      by : (b : Bool) → is_at m ≡ b → flat_map h (marked_cells d phys elem (filter is_at ms)) ≡ flat_map h (marked_cells d phys elem ms)
          → flat_map h (marked_cells d phys elem (cond b (m ∷ filter is_at ms) (filter is_at ms))) ≡ flat_map h (one d phys elem m) ++ flat_map h (marked_cells d phys elem ms)
      by true e more = flat_map-append h (one d phys elem m) (marked_cells d phys elem (filter is_at ms)) ∙ ap (λ ys. flat_map h (one d phys elem m) ++ ys) more
      by false e more = more ∙ ap (λ ys. ys ++ flat_map h (marked_cells d phys elem ms)) (sym (of_mark m e))

no_end : (a : Coordinates) (s : List Coordinates) → has place_cmp a s ≡ false → option_to_list (end_across a s) ≡ []
no_end a [] h = refl
no_end a (p ∷ []) h = refl
no_end a (p ∷ q ∷ []) h = let two = or_parts (eq a p) (eq a q || false) h in rw (eq_turned p a ∙ two.0, eq_turned q a ∙ (or_parts (eq a q) false two.1).0) refl
no_end a (p ∷ q ∷ r ∷ l) h = refl

no_edge : (a : Coordinates) (t : List Coordinates) → has place_cmp a t ≡ false → edges a t ≡ []
no_edge a [] h = refl
no_edge a (p ∷ []) h = refl
no_edge a (p ∷ q ∷ []) h = refl
no_edge a (p ∷ q ∷ r ∷ []) h =
    let two = or_parts (eq a p) (eq a q || (eq a r || false)) h in
    let one = or_parts (eq a q) (eq a r || false) two.1 in
    rw (eq_turned p a ∙ two.0, eq_turned q a ∙ one.0, eq_turned r a ∙ (or_parts (eq a r) false one.1).0) refl
no_edge a (p ∷ q ∷ r ∷ s ∷ l) h = refl

from_at : (a v : Coordinates) (marks : List CellMark) → CellsAllow a v (filter (is_at (λ s. option_to_list (end_across a s)) a (no_end a) 1 (pos 0) (pos 0)) marks) → CellsAllow a v marks
from_at a v marks allow = record {
  points = all_in (λ m. m.cell ≢ Point a) marks (λ m i e.
      each (λ m. m.cell ≢ Point a) m (filter at_a marks) allow.points (in_filter at_a m marks i (subst (λ c. holds_all (corners_of c) (a ∷ []) ≡ true) (sym e) (ap (λ b. (b || false) && true) (tied a)))) e);
  segments = λ phys elem. subst (AreStraight a v) (at_alone (λ s. option_to_list (end_across a s)) a (no_end a) 1 phys elem marks) (allow.segments phys elem);
  triangles = λ phys elem. subst (CanMoveInPlanes a v) (at_alone (edges a) a (no_edge a) 2 phys elem marks) (allow.triangles phys elem);
}
  where
    at_a : CellMark → Bool
    at_a m = holds_all (corners_of m.cell) (a ∷ [])

pub moved_marks_keep_classification : MovedMarksKeepClassification
moved_marks_keep_classification a v marks cells allow =
    let are = all_pass (λ m. is_cell m.cell) marks cells in
    classified_alike a v marks are (from_at a v marks (cells_allow a v (marks_at (a ∷ []) marks) (all-filter (λ m. is_cell m.cell ≡ true) (λ m. holds_all (corners_of m.cell) (a ∷ [])) marks are) allow))
