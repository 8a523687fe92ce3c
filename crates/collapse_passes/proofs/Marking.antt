-- A collapse leaves the marks at vertices that share no cell with its own.
use Rattle.std.proofs.Common.{◌≡◌, Bool, true, false, cond, ◌&&◌, List, [], ◌∷◌, filter, length, ◌==◌, Some, refl, sym, ap, subst, ◌∙◌}
use Rattle.std.specs.Prelude.{map}
use Rattle.std.specs.List.{AllByRecursion, flat_map}
use Rattle.std.specs.List.Sorted.{IsStrictlySortedBy}
use Rattle.std.specs.Option.{option_map, option_to_list}
use Rattle.std.specs.Ordering.{eq_by_cmp}
use Rattle.std.proofs.lemmas.Bool.{and_parts, eqb-true, or_from, or_parts}
use Rattle.std.proofs.lemmas.List.Kept.{IsStrictlySortedBy-filter}
use Rattle.std.proofs.lemmas.List.Sorted.{IsPermutation-refl}
use Rattle.ma_geom.specs.Coordinates.{Coordinates, place_cmp}
use Rattle.ma_geom.proofs.PlaceOrder.{place_cmp_total}
use Rattle.ma_cells.specs.Ascending.{are_ascending, ascending_of, has}
use Rattle.ma_cells.specs.Cells.{CellMark, cell_of, corners_of, is_cell, mark_cmp, mark_on}
use Rattle.ma_cells.specs.Faces.{holds_all}
use Rattle.ma_cells.specs.Stars.{marks_at}
use Rattle.ma_cells.specs.declared.cell.Cell.{Cell}
use Rattle.ma_cells.specs.declared.cell.Cell.TheVariants.{Point, Seg, Tri}
use Rattle.ma_cells.proofs.Ascents.{has-ascending_of, same_sorted, sorted-ascending_of}
use Rattle.ma_cells.proofs.CellOrders.{mark_cmp-IsAntisymmetric, mark_cmp_total}
use Rattle.ma_cells.proofs.Cornered.{cell_of-sorted, cell_on-three, cell_on-two}
use Rattle.ma_cells.proofs.Members.{has-filter}
use Rattle.ma_cells.proofs.Passing.{all-flat_map, all_anyway, all_weaker}
use Rattle.ma_cells.proofs.SetItems.{all-ascending_of}
use Rattle.mesh_laws.proofs.Lists.{all_two}
use Rattle.cavity_collapse.specs.Collapsing.{is_same, moved_mark, moved_marks}
use Rattle.collapse_laws.proofs.Filling.{and_true}
use Rattle.collapse_laws.proofs.Marks.{moved_corners as moved_to, to_v, unmoved}
use Rattle.collapse_passes.proofs.Each.{filter_each, filter_none, transposed}
use Rattle.collapse_passes.proofs.Removals.{HasOne, IsClear, Lack, Removal, lack_one, others_lack}

-- that a mark is on a cell that has one of these vertices at most
pub record IsMark (cs : List Removal) (m : CellMark) : Type 0 where
  pub cell : is_cell m.cell ≡ true
  pub one : HasOne cs (corners_of m.cell)

abbrev pub AreMarks : List Removal → List CellMark → Type 0
AreMarks cs marks = AllByRecursion (IsMark cs) marks

-- ---- a mark without the vertex
itself : (cell : Cell) → is_cell cell ≡ true → cell_of (corners_of cell) ≡ Some cell
itself (Point p) is = refl
itself (Seg s) is =
    let parts = and_parts (length s == 2) (are_ascending place_cmp s) is in
    cell_of-sorted s s (IsPermutation-refl s) parts.1 ∙ sym (cell_on-two s (eqb-true (length s) 2 parts.0))
itself (Tri t) is =
    let parts = and_parts (length t == 3) (are_ascending place_cmp t) is in
    cell_of-sorted t t (IsPermutation-refl t) parts.1 ∙ sym (cell_on-three t (eqb-true (length t) 3 parts.0))

pub stays : (a v : Coordinates) (m : CellMark) → is_cell m.cell ≡ true → has place_cmp a (corners_of m.cell) ≡ false → moved_mark a v m ≡ m ∷ []
stays a v m is none =
    ap (λ l. option_to_list (mark_on l m.phys m.elem)) (unmoved a v (corners_of m.cell) none)
    ∙ ap (λ o. option_to_list (option_map (λ (cell : Cell). record { cell = cell; phys = m.phys; elem = m.elem }) o)) (itself m.cell is)

-- ---- a mark with it
moved_lack : (c : Removal) (cs : List Removal) (l : List Coordinates) → IsClear c cs → Lack cs l → Lack cs (map (to_v c.at c.apex) l)
moved_lack c cs l clear lack = all_two (λ d. eq_by_cmp place_cmp d.at c.apex ≡ false) (λ d. has place_cmp d.at l ≡ false) (λ d. has place_cmp d.at (map (to_v c.at c.apex) l) ≡ false) (λ d e f. at d.at l e f) cs clear lack
  where
    one : (q p : Coordinates) (b : Bool) → eq_by_cmp place_cmp q c.apex ≡ false → eq_by_cmp place_cmp q p ≡ false → eq_by_cmp place_cmp q (cond b c.apex p) ≡ false
    one q p true e f = e
    one q p false e f = f

    at : (q : Coordinates) (l : List Coordinates) → eq_by_cmp place_cmp q c.apex ≡ false → has place_cmp q l ≡ false → has place_cmp q (map (to_v c.at c.apex) l) ≡ false
    at q [] e f = refl
    at q (p ∷ l) e f =
        let parts = or_parts (eq_by_cmp place_cmp q p) (has place_cmp q l) f in
        or_from (eq_by_cmp place_cmp q (to_v c.at c.apex p)) (has place_cmp q (map (to_v c.at c.apex) l)) (one q p (is_same p c.at) e parts.0) (at q l e parts.1)

module _ (c : Removal) (cs : List Removal) (clear : IsClear c cs) where
  -- what a mark with the vertex becomes has corners of it and the place that the vertex goes to
  pub moved_mark_lacks : (m : CellMark) → IsMark (c ∷ cs) m → has place_cmp c.at (corners_of m.cell) ≡ true
      → AllByRecursion (λ (n : CellMark). (is_cell n.cell ≡ true) × Lack cs (corners_of n.cell)) (moved_mark c.at c.apex m)
  moved_mark_lacks m is there =
      let l = map (to_v c.at c.apex) (corners_of m.cell) in
      let lack = moved_lack c cs (corners_of m.cell) clear (others_lack c cs (corners_of m.cell) is.one there) in
      let sorted = all_weaker (λ d. has place_cmp d.at l ≡ false) (λ d. has place_cmp d.at (ascending_of place_cmp l) ≡ false) (λ d e. has-ascending_of place_cmp_total d.at l ∙ e) cs lack in
      all_weaker (λ (n : CellMark). (is_cell n.cell ≡ true) × (corners_of n.cell ≡ ascending_of place_cmp l)) (λ n. (is_cell n.cell ≡ true) × Lack cs (corners_of n.cell))
      (λ n h. (h.0, subst (Lack cs) (sym h.1) sorted)) (moved_mark c.at c.apex m) (moved_to c.at c.apex m)

  moved_marks_are : (m : CellMark) → IsMark (c ∷ cs) m → AreMarks cs (moved_mark c.at c.apex m)
  moved_marks_are m is = by (has place_cmp c.at (corners_of m.cell)) refl
    where
      by : (b : Bool) → has place_cmp c.at (corners_of m.cell) ≡ b → AreMarks cs (moved_mark c.at c.apex m)
      by true there =
          all_weaker (λ (n : CellMark). (is_cell n.cell ≡ true) × Lack cs (corners_of n.cell)) (IsMark cs) (λ n h. record { cell = h.0; one = lack_one cs (corners_of n.cell) h.1 }) (moved_mark c.at c.apex m)
          (moved_mark_lacks m is there)
      by false none = subst (AreMarks cs) (sym (stays c.at c.apex m is.cell none)) (record { cell = is.cell; one = is.one.1 }, tt)

  pub still_marks : (marks : List CellMark) → AreMarks (c ∷ cs) marks → AreMarks cs (moved_marks c.at c.apex marks)
  still_marks marks are =
      all-ascending_of mark_cmp (IsMark cs) (flat_map (moved_mark c.at c.apex) marks) (all-flat_map (IsMark (c ∷ cs)) (IsMark cs) (moved_mark c.at c.apex) moved_marks_are marks are)

  -- the marks at the others stand, as lists
  abbrev Kept : CellMark → Removal → Type 0
  Kept m d = filter (λ (n : CellMark). holds_all (corners_of n.cell) (d.at ∷ [])) (moved_mark c.at c.apex m) ≡ filter (λ (n : CellMark). holds_all (corners_of n.cell) (d.at ∷ [])) (m ∷ [])

  kept_at : (m : CellMark) → IsMark (c ∷ cs) m → AllByRecursion (Kept m) cs
  kept_at m is = by (has place_cmp c.at (corners_of m.cell)) refl
    where
      both : (d : Removal) → has place_cmp d.at (corners_of m.cell) ≡ false → AllByRecursion (λ (n : CellMark). has place_cmp d.at (corners_of n.cell) ≡ false) (moved_mark c.at c.apex m) → Kept m d
      both d none lack =
          let at = λ (n : CellMark). holds_all (corners_of n.cell) (d.at ∷ []) in
          filter_none at (moved_mark c.at c.apex m) (all_weaker (λ (n : CellMark). has place_cmp d.at (corners_of n.cell) ≡ false) (λ n. at n ≡ false) (λ n e. and_true (has place_cmp d.at (corners_of n.cell)) ∙ e) (moved_mark c.at c.apex m) lack)
          ∙ sym (filter_none at (m ∷ []) (and_true (has place_cmp d.at (corners_of m.cell)) ∙ none, tt))

      by : (b : Bool) → has place_cmp c.at (corners_of m.cell) ≡ b → AllByRecursion (Kept m) cs
      by true there =
          all_two (λ d. has place_cmp d.at (corners_of m.cell) ≡ false) (λ d. AllByRecursion (λ (n : CellMark). has place_cmp d.at (corners_of n.cell) ≡ false) (moved_mark c.at c.apex m)) (Kept m) both cs
          (others_lack c cs (corners_of m.cell) is.one there)
          (transposed (λ (n : CellMark) d. has place_cmp d.at (corners_of n.cell) ≡ false) (moved_mark c.at c.apex m) cs
          (all_weaker (λ (n : CellMark). (is_cell n.cell ≡ true) × Lack cs (corners_of n.cell)) (λ n. Lack cs (corners_of n.cell)) (λ n h. h.1) (moved_mark c.at c.apex m) (moved_mark_lacks m is there)))
      by false none =
          all_weaker (λ (d : Removal). Unit {0}) (Kept m) (λ d _. ap (filter (λ (n : CellMark). holds_all (corners_of n.cell) (d.at ∷ []))) (stays c.at c.apex m is.cell none)) cs (all_anyway cs)

  pub marks_stand : (marks : List CellMark) → IsStrictlySortedBy mark_cmp marks → AreMarks (c ∷ cs) marks
      → AllByRecursion (λ d. marks_at (d.at ∷ []) (moved_marks c.at c.apex marks) ≡ marks_at (d.at ∷ []) marks) cs
  marks_stand marks rises are =
      all_weaker (λ d. AllByRecursion (λ m. Kept m d) marks) (λ d. marks_at (d.at ∷ []) (moved_marks c.at c.apex marks) ≡ marks_at (d.at ∷ []) marks) each cs
      (transposed Kept marks cs (all_weaker (IsMark (c ∷ cs)) (λ m. AllByRecursion (Kept m) cs) kept_at marks are))
    where
      each : (d : Removal) → AllByRecursion (λ m. Kept m d) marks → marks_at (d.at ∷ []) (moved_marks c.at c.apex marks) ≡ marks_at (d.at ∷ []) marks
      each d kept =
          let at = λ (n : CellMark). holds_all (corners_of n.cell) (d.at ∷ []) in
          let all = flat_map (moved_mark c.at c.apex) marks in
          same_sorted mark_cmp_total mark_cmp-IsAntisymmetric (filter at (ascending_of mark_cmp all)) (filter at marks)
          (IsStrictlySortedBy-filter mark_cmp at (ascending_of mark_cmp all) (sorted-ascending_of mark_cmp_total all)) (IsStrictlySortedBy-filter mark_cmp at marks rises)
          (λ q. has-filter mark_cmp-IsAntisymmetric at q (ascending_of mark_cmp all)
          ∙ ap (λ b. b && at q) (has-ascending_of mark_cmp_total q all)
          ∙ sym (has-filter mark_cmp-IsAntisymmetric at q all)
          ∙ ap (has mark_cmp q) (filter_each at (moved_mark c.at c.apex) marks kept))
