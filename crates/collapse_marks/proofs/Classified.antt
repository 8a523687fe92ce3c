-- Moved marks classify points as the marks do, if their segments and triangles with each tag keep their points.
use Rattle.std.proofs.Common.{◌≡◌, ◌≢◌, ℕ, zero, suc, ◌<◌, Bool, true, false, cond, ◌&&◌, ◌||◌, List, [], ◌∷◌, ◌++◌, length, None, refl, sym, ap, ap₂, subst, ◌∙◌, arith, eqb-true}
use Rattle.std.specs.Prelude.{◌↔◌, ℤ, ◌==◌}
use Rattle.std.specs.List.{AllByRecursion, flat_map}
use Rattle.std.specs.Option.{option_map, option_to_list}
use Rattle.std.specs.Ordering.{int_eq}
use Rattle.std.proofs.lemmas.Bool.{and_parts, false≢true}
use Rattle.std.proofs.lemmas.List.Concat.{flat_map-append}
use Rattle.ma_geom.specs.Coordinates.{Coordinates, place_cmp}
use Rattle.ma_geom.specs.Rational.{Rational}
use Rattle.ma_geom.proofs.PlaceOrder.{place_cmp_total}
use Rattle.ma_cells.specs.Ascending.{are_ascending, are_distinct, ascending_of}
use Rattle.ma_cells.specs.Cells.{CellMark, cell_on, corners_of, is_cell, mark_cmp, mark_on}
use Rattle.ma_cells.specs.declared.cell.Cell.{Cell}
use Rattle.ma_cells.specs.declared.cell.Cell.TheVariants.{Point, Seg, Tri}
use Rattle.ma_cells.proofs.Ascents.{length-ascending_of}
use Rattle.ma_cells.proofs.CellOrders.{mark_cmp-IsAntisymmetric}
use Rattle.ma_cells.proofs.Choices.{all-append}
use Rattle.ma_cells.proofs.Permutations.{apart}
use Rattle.ma_cover.specs.Classification.{AnyByRecursion, IsOn, IsOnCell, KeepsClassification, dimension, marked_cells}
use Rattle.ma_cover.proofs.Anys.{any-ascending_of, any-flat_map, then_either}
use Rattle.plane_laws.specs.Planes.{CanMoveInPlanes}
use Rattle.cavity_collapse.specs.Collapsing.{moved_corners, moved_mark, moved_marks}
use Rattle.moved_cells.specs.Cells.{AreCells, moved_cell, moved_cells}
use Rattle.moved_cells.specs.Segments.{AreStraight, ends_of}
use Rattle.moved_cells.specs.Triangles.{link_of}
use Rattle.moved_cells.proofs.Moved.{moved_cell_away}
use Rattle.moved_cells.proofs.Segments.{segments_keep_points}
use Rattle.moved_cells.proofs.Triangles.{triangles_keep_points}

abbrev AreMarks : List CellMark → Type 0
AreMarks marks = AllByRecursion (λ m. is_cell m.cell ≡ true) marks

turned : {A B : Type 0} → (A ↔ B) → (B ↔ A)
turned h = (h.1, h.0)

-- ---- moved marks have the moved cells
module _ (d : ℕ) (phys elem : ℤ) where
  abbrev has_tag : CellMark → Bool
  has_tag m = int_eq m.phys phys && int_eq m.elem elem

  abbrev pub one : CellMark → List (List Coordinates)
  one m = cond ((dimension m.cell == d) && has_tag m) (corners_of m.cell ∷ []) []

  abbrev marks_on : CellMark → List Coordinates → List (List Coordinates)
  marks_on m t = flat_map one (option_to_list (option_map (λ cell. record { cell = cell; phys = m.phys; elem = m.elem }) (cell_on t)))

  -- corners of a dimension, without repeats, are those of a cell of the same
  module _ (m : CellMark) where
    of_point : (t : List Coordinates) → length t ≡ 1 → marks_on m t ≡ cond ((0 == d) && has_tag m) (t ∷ []) [] ++ []
    of_point [] long = absurd (omega (arith, long))
    of_point (x ∷ []) long = refl
    of_point (x ∷ y ∷ l) long = absurd (omega (arith, long))

    of_segment : (t : List Coordinates) → length t ≡ 2 → marks_on m t ≡ cond ((1 == d) && has_tag m) (t ∷ []) [] ++ []
    of_segment [] long = absurd (omega (arith, long))
    of_segment (x ∷ []) long = absurd (omega (arith, long))
    of_segment (x ∷ y ∷ []) long = refl
    of_segment (x ∷ y ∷ z ∷ l) long = absurd (omega (arith, long))

    of_triangle : (t : List Coordinates) → length t ≡ 3 → marks_on m t ≡ cond ((2 == d) && has_tag m) (t ∷ []) [] ++ []
    of_triangle [] long = absurd (omega (arith, long))
    of_triangle (x ∷ []) long = absurd (omega (arith, long))
    of_triangle (x ∷ y ∷ []) long = absurd (omega (arith, long))
    of_triangle (x ∷ y ∷ z ∷ []) long = refl
    of_triangle (x ∷ y ∷ z ∷ w ∷ l) long = absurd (omega (arith, long))

    -- with v in the place of a
    module _ (a v : Coordinates) where
      same_length : (s : List Coordinates) → length (moved_corners a v s) ≡ length s
      same_length [] = refl
      same_length (x ∷ s) = ap suc (same_length s)

      full : (s : List Coordinates) (n : ℕ) → length s ≡ n → are_distinct place_cmp (moved_corners a v s) ≡ true → length (ascending_of place_cmp (moved_corners a v s)) ≡ n
      full s n long distinct = eqb-true (length (ascending_of place_cmp (moved_corners a v s))) (length (moved_corners a v s)) ((length-ascending_of place_cmp_total (moved_corners a v s)).1 ∙ distinct) ∙ same_length s ∙ long

      by_size : (n e : ℕ) (s : List Coordinates) → length s ≡ n → ((t : List Coordinates) → length t ≡ n → marks_on m t ≡ cond ((e == d) && has_tag m) (t ∷ []) [] ++ [])
          → flat_map one (option_to_list (mark_on (moved_corners a v s) m.phys m.elem)) ≡ flat_map (moved_cell a v) (cond ((e == d) && has_tag m) (s ∷ []) [])
      by_size n e s long each = by (are_distinct place_cmp (moved_corners a v s)) refl
        where
          pick : (b : Bool) (ts : List (List Coordinates)) → moved_cell a v s ≡ ts → cond b ts [] ++ [] ≡ flat_map (moved_cell a v) (cond b (s ∷ []) [])
          pick true ts is = ap (λ us. us ++ []) (sym is)
          pick false ts is = refl

          by : (b : Bool) → are_distinct place_cmp (moved_corners a v s) ≡ b → flat_map one (option_to_list (mark_on (moved_corners a v s) m.phys m.elem)) ≡ flat_map (moved_cell a v) (cond ((e == d) && has_tag m) (s ∷ []) [])
          by true f =
              ap (λ b. flat_map one (option_to_list (option_map (λ cell. record { cell = cell; phys = m.phys; elem = m.elem }) (cond b (cell_on (ascending_of place_cmp (moved_corners a v s))) None)))) f
              ∙ each (ascending_of place_cmp (moved_corners a v s)) (full s n long f)
              ∙ pick ((e == d) && has_tag m) (ascending_of place_cmp (moved_corners a v s) ∷ []) (ap (λ b. cond b (ascending_of place_cmp (moved_corners a v s) ∷ []) []) f)
          by false f =
              ap (λ b. flat_map one (option_to_list (option_map (λ cell. record { cell = cell; phys = m.phys; elem = m.elem }) (cond b (cell_on (ascending_of place_cmp (moved_corners a v s))) None)))) f
              ∙ nothing ((e == d) && has_tag m) (ap (λ b. cond b (ascending_of place_cmp (moved_corners a v s) ∷ []) []) f)
            where
              nothing : (b : Bool) → moved_cell a v s ≡ [] → [] ≡ flat_map (moved_cell a v) (cond b (s ∷ []) [])
              nothing true is = ap (λ us. us ++ []) (sym is)
              nothing false is = refl

  one_moved : (a v : Coordinates) (m : CellMark) → is_cell m.cell ≡ true → flat_map one (moved_mark a v m) ≡ flat_map (moved_cell a v) (one m)
  one_moved a v m h = by m.cell h
    where
      is : (n k : ℕ) → (n == k) ≡ true → n ≡ k
      is n k h = grind arith

      by : (c : Cell) → is_cell c ≡ true → flat_map one (option_to_list (mark_on (moved_corners a v (corners_of c)) m.phys m.elem)) ≡ flat_map (moved_cell a v) (cond ((dimension c == d) && has_tag m) (corners_of c ∷ []) [])
      by (Point p) h = by_size m a v 1 0 (p ∷ []) refl (of_point m)
      by (Seg s) h = by_size m a v 2 1 s (is (length s) 2 (and_parts (length s == 2) (are_ascending place_cmp s) h).0) (of_segment m)
      by (Tri t) h = by_size m a v 3 2 t (is (length t) 3 (and_parts (length t == 3) (are_ascending place_cmp t) h).0) (of_triangle m)

  marks_moved : (a v : Coordinates) (marks : List CellMark) → AreMarks marks → marked_cells d phys elem (flat_map (moved_mark a v) marks) ≡ moved_cells a v (marked_cells d phys elem marks)
  marks_moved a v [] h = refl
  marks_moved a v (m ∷ marks) h =
      flat_map-append one (moved_mark a v m) (flat_map (moved_mark a v) marks)
      ∙ ap₂ (λ xs ys. xs ++ ys) (one_moved a v m h.0) (marks_moved a v marks h.1)
      ∙ sym (flat_map-append (moved_cell a v) (one m) (marked_cells d phys elem marks))

  -- so a point is on moved marks just if it is on the moved cells
  on_moved : (a v : Coordinates) (marks : List CellMark) → AreMarks marks → (p : Rational) → IsOn (moved_marks a v marks) d phys elem p ↔ AnyByRecursion (IsOnCell p) (moved_cells a v (marked_cells d phys elem marks))
  on_moved a v marks are p =
      let whole = flat_map (moved_mark a v) marks in
      let IsOnMark : CellMark → Type 0 = λ m. AnyByRecursion (IsOnCell p) (one m) in
      then_either (any-flat_map (IsOnCell p) one (ascending_of mark_cmp whole))
      (then_either (any-ascending_of mark_cmp-IsAntisymmetric IsOnMark whole)
      (subst (λ cells. AnyByRecursion IsOnMark whole ↔ AnyByRecursion (IsOnCell p) cells) (marks_moved a v marks are) (turned (any-flat_map (IsOnCell p) one whole))))

  -- the cells of a kind of mark
  cells_of : (n : ℕ) → ((m : CellMark) → is_cell m.cell ≡ true → ((dimension m.cell == d) && has_tag m) ≡ true → (length (corners_of m.cell) ≡ n) × (are_ascending place_cmp (corners_of m.cell) ≡ true))
      → (marks : List CellMark) → AreMarks marks → AreCells n (marked_cells d phys elem marks)
  cells_of n each [] h = tt
  cells_of n each (m ∷ marks) h = all-append (λ c. (length c ≡ n) × (are_ascending place_cmp c ≡ true)) (one m) (marked_cells d phys elem marks) (by ((dimension m.cell == d) && has_tag m) refl) (cells_of n each marks h.1)
    where
      by : (b : Bool) → ((dimension m.cell == d) && has_tag m) ≡ b → AllByRecursion (λ c. (length c ≡ n) × (are_ascending place_cmp c ≡ true)) (cond b (corners_of m.cell ∷ []) [])
      by true e = (each m h.0 e, tt)
      by false e = tt

-- ---- each dimension
segment_cell : (c : Cell) (t : Bool) → is_cell c ≡ true → ((dimension c == 1) && t) ≡ true → (length (corners_of c) ≡ 2) × (are_ascending place_cmp (corners_of c) ≡ true)
segment_cell (Point p) t h k = absurd (false≢true k)
segment_cell (Seg s) t h k = let both = and_parts (length s == 2) (are_ascending place_cmp s) h in (eqb-true (length s) 2 both.0, both.1)
segment_cell (Tri s) t h k = absurd (false≢true k)

triangle_cell : (c : Cell) (t : Bool) → is_cell c ≡ true → ((dimension c == 2) && t) ≡ true → (length (corners_of c) ≡ 3) × (are_ascending place_cmp (corners_of c) ≡ true)
triangle_cell (Point p) t h k = absurd (false≢true k)
triangle_cell (Seg s) t h k = absurd (false≢true k)
triangle_cell (Tri s) t h k = let both = and_parts (length s == 3) (are_ascending place_cmp s) h in (eqb-true (length s) 3 both.0, both.1)

abbrev IsNotAt : Coordinates → Cell → Type 0
IsNotAt a cell = cell ≢ Point a

points_stay : (a v : Coordinates) (phys elem : ℤ) (marks : List CellMark) → AllByRecursion (λ m. IsNotAt a m.cell) marks → moved_cells a v (marked_cells 0 phys elem marks) ≡ marked_cells 0 phys elem marks
points_stay a v phys elem [] h = refl
points_stay a v phys elem (m ∷ marks) h =
    flat_map-append (moved_cell a v) (one 0 phys elem m) (marked_cells 0 phys elem marks)
    ∙ ap₂ (λ xs ys. xs ++ ys) (by m.cell (int_eq m.phys phys && int_eq m.elem elem) h.0) (points_stay a v phys elem marks h.1)
  where
    by : (c : Cell) (t : Bool) → IsNotAt a c → moved_cells a v (cond ((dimension c == 0) && t) (corners_of c ∷ []) []) ≡ cond ((dimension c == 0) && t) (corners_of c ∷ []) []
    by (Point p) true h = ap (λ cells. cells ++ []) (moved_cell_away a v (p ∷ []) refl (ap (λ b. b || false) (apart a p (λ e. h (ap Point (sym e))))))
    by (Point p) false h = refl
    by (Seg s) t h = refl
    by (Tri s) t h = refl

none_marked : (d : ℕ) (phys elem : ℤ) (marks : List CellMark) → marked_cells (suc (suc (suc d))) phys elem marks ≡ []
none_marked d phys elem [] = refl
none_marked d phys elem (m ∷ marks) = ap₂ (λ b cells. cond (b && (int_eq m.phys phys && int_eq m.elem elem)) (corners_of m.cell ∷ []) [] ++ cells) (by m.cell) (none_marked d phys elem marks)
  where
    differ : (k : ℕ) → k < 3 → (k == suc (suc (suc d))) ≡ false
    differ k h = grind arith

    by : (c : Cell) → (dimension c == suc (suc (suc d))) ≡ false
    by (Point p) = differ 0 (omega arith)
    by (Seg s) = differ 1 (omega arith)
    by (Tri t) = differ 2 (omega arith)

-- that for each tag the cells at a let it go to v
pub record CellsAllow (a v : Coordinates) (marks : List CellMark) : Type 0 where
  pub points : AllByRecursion (λ m. m.cell ≢ Point a) marks
  pub segments : (phys elem : ℤ) → AreStraight a v (ends_of a (marked_cells 1 phys elem marks))
  pub triangles : (phys elem : ℤ) → CanMoveInPlanes a v (link_of a (marked_cells 2 phys elem marks))

pub classified_alike : (a v : Coordinates) (marks : List CellMark) → AllByRecursion (λ m. is_cell m.cell ≡ true) marks → CellsAllow a v marks → KeepsClassification marks (moved_marks a v marks)
classified_alike a v marks are allow zero phys elem p is_point =
    subst (λ cells. AnyByRecursion (IsOnCell p) cells ↔ IsOn (moved_marks a v marks) 0 phys elem p) (points_stay a v phys elem marks allow.points) (turned (on_moved 0 phys elem a v marks are p))
classified_alike a v marks are allow (suc zero) phys elem p is_point =
    then_either (segments_keep_points a v (marked_cells 1 phys elem marks) (cells_of 1 phys elem 2 (λ m h k. segment_cell m.cell (has_tag 1 phys elem m) h k) marks are) (allow.segments phys elem) p) (turned (on_moved 1 phys elem a v marks are p))
classified_alike a v marks are allow (suc (suc zero)) phys elem p is_point =
    then_either (triangles_keep_points a v (marked_cells 2 phys elem marks) (cells_of 2 phys elem 3 (λ m h k. triangle_cell m.cell (has_tag 2 phys elem m) h k) marks are) (allow.triangles phys elem) p is_point) (turned (on_moved 2 phys elem a v marks are p))
classified_alike a v marks are allow (suc (suc (suc d))) phys elem p is_point =
    let none = none_marked d phys elem marks in
    then_either ((λ h. absurd (subst (AnyByRecursion (IsOnCell p)) none h)), (λ h. absurd (subst (λ cells. AnyByRecursion (IsOnCell p) (moved_cells a v cells)) none h)))
    (turned (on_moved (suc (suc (suc d))) phys elem a v marks are p))
