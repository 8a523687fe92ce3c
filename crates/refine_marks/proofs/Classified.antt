-- Refinement keeps the points of marked cells.
use Rattle.std.proofs.Common.{◌≡◌, ⊎_elim, ℕ, Bool, true, false, cond, ◌&&◌, ◌==◌, List, [], ◌∷◌, refl}
use Rattle.std.specs.Prelude.{ℤ, ◌↔◌, map}
use Rattle.std.specs.FinMap.{slice_cmp-IsAntisymmetric}
use Rattle.std.specs.List.{AllByRecursion, flat_map}
use Rattle.std.specs.Ordering.{int_eq}
use Rattle.ma_geom.specs.Coordinates.{Coordinates}
use Rattle.ma_geom.specs.Rational.{Rational}
use Rattle.ma_geom.proofs.PlaceOrder.{place_cmp-IsAntisymmetric}
use Rattle.ma_cells.specs.Ascending.{ascending_of}
use Rattle.ma_cells.specs.Cells.{CellMark, corners_of, is_cell, mark_cmp}
use Rattle.ma_cells.specs.declared.cell.Cell.{Cell}
use Rattle.ma_cells.specs.declared.cell.Cell.TheVariants.{Point, Seg, Tri}
use Rattle.ma_cells.proofs.CellOrders.{mark_cmp-IsAntisymmetric}
use Rattle.ma_cells.proofs.Passing.{all_pass}
use Rattle.ma_cover.specs.Classification.{AnyByRecursion, IsOn, IsOnCell, dimension}
use Rattle.ma_cover.proofs.Anys.{any-ascending_of, any-flat_map, any-map, any_alike, any_one, then_either}
use Rattle.size_marks.specs.Field.{Field}
use Rattle.split_templates.specs.Pieces.{is_straight, pieces_of}
use Rattle.split_templates.proofs.Corners.{IsTriangle, triangles}
use Rattle.split_templates.proofs.Shapes.{IsSegment, segments}
use Rattle.split_templates.proofs.Straight.{apex}
use Rattle.refinement.specs.Refinement.{long_edges, refined_cell, refined_mark}
use Rattle.refinement.proofs.Bisecting.{bisected, own_edges, own_edges_rise}
use Rattle.refinement.proofs.Rising.{its_corners_rise}
use Rattle.refine_marks.specs.Marks.{RefinementKeepsClassification}
use Rattle.refine_marks.proofs.CellsKept.{its_count}
use Rattle.refine_marks.proofs.OnHalves.{pieces_on}

turned : {A B : Type 0} → (A ↔ B) → (B ↔ A)
turned both = (both.1, both.0)

module _ (field : Field) (p : Rational) where
  abbrev OnPieces : List Coordinates → Type 0
  OnPieces cell = AnyByRecursion (IsOnCell p) (pieces_of (long_edges field cell) cell) ↔ IsOnCell p cell

  from_pieces : (cell : List Coordinates) → (AnyByRecursion (IsOnCell p) (cell ∷ []) ↔ AnyByRecursion (IsOnCell p) (bisected field cell)) → OnPieces cell
  from_pieces cell same =
      then_either (any-ascending_of (slice_cmp-IsAntisymmetric place_cmp-IsAntisymmetric) (IsOnCell p) (bisected field cell)) (then_either (turned same) (turned (any_one (IsOnCell p) cell)))

  segment_pieces : (s : List Coordinates) → is_cell (Seg s) ≡ true → OnPieces s
  segment_pieces s is =
      let up = its_corners_rise 2 s is in
      from_pieces s (pieces_on IsSegment 2 segments p (own_edges field s) (own_edges_rise field s up) (s ∷ []) ((up, its_count 2 s is), tt))

  triangle_pieces : (t : List Coordinates) → is_cell (Tri t) ≡ true → is_straight t ≡ false → OnPieces t
  triangle_pieces t is bent =
      let top = apex t bent in
      from_pieces t (pieces_on (IsTriangle top.0) 3 (triangles top.0) p (own_edges field t) (own_edges_rise field t (its_corners_rise 3 t is)) (t ∷ []) (top.1, tt))

  -- ---- marks of one dimension with one tag
  module _ (d : ℕ) (phys elem : ℤ) where
    -- that p is on the cell, if it counts
    abbrev Counts : Bool → List Coordinates → Type 0
    Counts b corners = AnyByRecursion (IsOnCell p) (cond b (corners ∷ []) [])

    counted : (b : Bool) (cell : List Coordinates) → OnPieces cell → AnyByRecursion (Counts b) (pieces_of (long_edges field cell) cell) ↔ Counts b cell
    counted true cell same =
        then_either (any_alike (λ _. Unit {0}) (Counts true) (IsOnCell p) (λ r _. turned (any_one (IsOnCell p) r)) (pieces_of (long_edges field cell) cell) (anyway (pieces_of (long_edges field cell) cell)))
        (then_either same (any_one (IsOnCell p) cell))
      where
        anyway : (xs : List (List Coordinates)) → AllByRecursion (λ _. Unit {0}) xs
        anyway [] = tt
        anyway (x ∷ xs) = (tt, anyway xs)
    counted false cell same = ((λ h. nothing (pieces_of (long_edges field cell) cell) h), (λ h. absurd h))
      where
        nothing : (xs : List (List Coordinates)) → AnyByRecursion (Counts false) xs → ⊥
        nothing [] h = h
        nothing (x ∷ xs) h = ⊎_elim (λ k. k) (λ k. nothing xs k) h

    module _ (mark : CellMark) where
      abbrev counts : Cell → Bool
      counts cell = (dimension cell == d) && (int_eq mark.phys phys && int_eq mark.elem elem)

      abbrev IsOnIt : Cell → Type 0
      IsOnIt cell = Counts (counts cell) (corners_of cell)

      cell_pieces : (cell : Cell) → is_cell cell ≡ true → AnyByRecursion IsOnIt (refined_cell field cell) ↔ IsOnIt cell
      cell_pieces (Point q) is = turned (any_one IsOnIt (Point q))
      cell_pieces (Seg s) is = then_either (any-map IsOnIt Seg (pieces_of (long_edges field s) s)) (counted (counts (Seg s)) s (segment_pieces s is))
      cell_pieces (Tri t) is =
          elim (is_straight t) as (λ b. is_straight t ≡ b → AnyByRecursion IsOnIt (cond b (Tri t ∷ []) (map Tri (pieces_of (long_edges field t) t))) ↔ IsOnIt (Tri t)) [
            | true ↦ λ _. turned (any_one IsOnIt (Tri t))
            | false ↦ λ bent. then_either (any-map IsOnIt Tri (pieces_of (long_edges field t) t)) (counted (counts (Tri t)) t (triangle_pieces t is bent))
          ] refl

    abbrev one : CellMark → List (List Coordinates)
    one m = cond ((dimension m.cell == d) && (int_eq m.phys phys && int_eq m.elem elem)) (corners_of m.cell ∷ []) []

    abbrev IsOnMark : CellMark → Type 0
    IsOnMark m = AnyByRecursion (IsOnCell p) (one m)

    mark_pieces : (mark : CellMark) → is_cell mark.cell ≡ true → AnyByRecursion IsOnMark (refined_mark field mark) ↔ IsOnMark mark
    mark_pieces mark is = then_either (any-map IsOnMark (λ cell. record mark { cell = cell }) (refined_cell field mark.cell)) (cell_pieces mark mark.cell is)

    pub marks_on : (marks : List CellMark) → AllByRecursion (λ m. is_cell m.cell ≡ true) marks → IsOn (ascending_of mark_cmp (flat_map (refined_mark field) marks)) d phys elem p ↔ IsOn marks d phys elem p
    marks_on marks are =
        let pieces = flat_map (refined_mark field) marks in
        then_either (any-flat_map (IsOnCell p) one (ascending_of mark_cmp pieces))
        (then_either (any-ascending_of mark_cmp-IsAntisymmetric IsOnMark pieces)
        (then_either (any-flat_map IsOnMark (refined_mark field) marks)
        (then_either (any_alike (λ m. is_cell m.cell ≡ true) (λ m. AnyByRecursion IsOnMark (refined_mark field m)) IsOnMark mark_pieces marks are) (turned (any-flat_map (IsOnCell p) one marks)))))

pub refinement_keeps_classification : RefinementKeepsClassification
refinement_keeps_classification field mesh cells d phys elem p _ = turned (marks_on field p d phys elem mesh.marks (all_pass (λ m. is_cell m.cell) mesh.marks cells))
