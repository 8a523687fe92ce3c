-- A mesh on the grid of 2^(k+1) is on that of 2^k once it is refined.
use Rattle.std.proofs.Common.{◌≡◌, ℕ, suc, true, false, cond, ◌&&◌, List, [], ◌∷◌, Some, None, refl}
use Rattle.std.proofs.lemmas.Bool.{and_from, and_parts}
use Rattle.std.specs.Prelude.{map}
use Rattle.std.specs.Cmp.Lexicographic.{slice_cmp}
use Rattle.std.specs.List.{AllByRecursion, flat_map, list_all}
use Rattle.std.specs.Ordering.{eq_by_cmp}
use Rattle.ma_geom.specs.Coordinates.{Coordinates, place_cmp}
use Rattle.ma_geom.specs.Midpoints.{midpoint}
use Rattle.ma_cells.specs.Ascending.{ascending_of}
use Rattle.ma_cells.specs.Bisection.{bisect, replaced}
use Rattle.ma_cells.specs.Cells.{CellMark, corners_of, mark_cmp}
use Rattle.ma_cells.specs.Faces.{edges_of, holds_all}
use Rattle.ma_cells.specs.Tetrahedron.{Tetrahedron, tet_cmp}
use Rattle.ma_cells.specs.declared.cell.Cell.{Cell}
use Rattle.ma_cells.specs.declared.cell.Cell.TheVariants.{Point, Seg, Tri}
use Rattle.ma_cells.proofs.Choices.{all-choices}
use Rattle.size_marks.specs.Field.{Field}
use Rattle.split_templates.specs.Edges.{edge_cmp, is_long_edge}
use Rattle.split_templates.specs.Pieces.{bisected_along, halves, halves_at, is_straight, pieces_of}
use Rattle.split_templates.proofs.Middles.{midpoint-IsMiddle}
use Rattle.ma_cells.specs.Grid.{are_on_grid, is_multiple, is_on_grid, marks_are_on_grid}
use Rattle.refinement.specs.Laws.{RefinementHalvesTheGrid}
use Rattle.refinement.specs.Refinement.{long_edges, refine, refined_cell, refined_mark, refined_tet}
use Rattle.refinement.proofs.Multiples.{is_multiple-half, is_multiple-halfway}
use Rattle.ma_cells.proofs.Passing.{all-filter, all-flat_map, all-map, all_pass, all_weaker, test_all}
use Rattle.ma_cells.proofs.SetItems.{all-ascending_of}

abbrev Corners : (Coordinates → Type 0) → List Coordinates → Type 0
Corners P corners = AllByRecursion P corners

-- what holds of the corners of a cell, and of each place halfway between two of its corners, holds of all corners of its pieces
module _ (P Q : Coordinates → Type 0) (weaker : (p : Coordinates) → P p → Q p) (halfway : (a b m : Coordinates) → P a → P b → midpoint a b ≡ Some m → Q m) where
  all-replaced : (a m : Coordinates) (corners : List Coordinates) → Q m → Corners Q corners → Corners Q (replaced a m corners)
  all-replaced a m corners middle h =
      let changed = λ (p : Coordinates). cond (eq_by_cmp place_cmp a p) m p in
      all-ascending_of place_cmp Q (map changed corners) (all-map Q Q changed (λ p at_p. elim (eq_by_cmp place_cmp a p) as (λ t. Q (cond t m p)) [ true ↦ middle | false ↦ at_p ]) corners h)

  all-bisect : (a b m : Coordinates) (corners : List Coordinates) → Q m → Corners Q corners → AllByRecursion (Corners Q) (bisect a b m corners)
  all-bisect a b m corners middle h =
      elim (holds_all corners (a ∷ b ∷ [])) as (λ t. AllByRecursion (Corners Q) (cond t (replaced a m corners ∷ replaced b m corners ∷ []) (corners ∷ []))) [
        | true ↦ (all-replaced a m corners middle h, (all-replaced b m corners middle h, tt))
        | false ↦ (h, tt)
      ]

  all-halves : (edge corners : List Coordinates) → Corners P edge → Corners Q corners → AllByRecursion (Corners Q) (halves edge corners)
  all-halves [] corners ends h = (h, tt)
  all-halves (a ∷ []) corners ends h = (h, tt)
  all-halves (a ∷ b ∷ []) corners ends h =
      elim (midpoint a b) as (λ o. midpoint a b ≡ o → AllByRecursion (Corners Q) (halves_at a b o corners)) [
        | None ↦ λ _. (h, tt)
        | Some m ↦ λ is. all-bisect a b m corners (halfway a b m ends.0 ends.1.0 is) h
      ] refl
  all-halves (a ∷ b ∷ c ∷ edge) corners ends h = (h, tt)

  all-bisected_along : (edges pieces : List (List Coordinates)) → AllByRecursion (Corners P) edges → AllByRecursion (Corners Q) pieces → AllByRecursion (Corners Q) (bisected_along edges pieces)
  all-bisected_along [] pieces ends h = h
  all-bisected_along (edge ∷ edges) pieces ends h =
      all-bisected_along edges (flat_map (halves edge) pieces) ends.1 (all-flat_map (Corners Q) (Corners Q) (halves edge) (λ piece at_piece. all-halves edge piece ends.0 at_piece) pieces h)

  pub all-pieces_of : (field : Field) (corners : List Coordinates) → Corners P corners → AllByRecursion (Corners Q) (pieces_of (long_edges field corners) corners)
  all-pieces_of field corners h =
      let marked = long_edges field corners in
      let ends = all-filter (Corners P) (is_long_edge field) (edges_of corners) (all-choices P 2 corners h) in
      let in_turn = all-ascending_of edge_cmp (Corners P) marked ends in
      let pieces = bisected_along (ascending_of edge_cmp marked) (corners ∷ []) in
      all-ascending_of (slice_cmp place_cmp) (Corners Q) pieces (all-bisected_along (ascending_of edge_cmp marked) (corners ∷ []) in_turn (all_weaker P Q weaker corners h, tt))

-- ---- places on the grids
abbrev IsOnGrid : ℕ → Coordinates → Type 0
IsOnGrid k p = is_on_grid k p ≡ true

by_coordinates : (k : ℕ) (p : Coordinates) → IsOnGrid k p → (is_multiple k p.x ≡ true) × (is_multiple k p.y ≡ true) × (is_multiple k p.z ≡ true)
by_coordinates k p h =
    let first = and_parts (is_multiple k p.x && is_multiple k p.y) (is_multiple k p.z) h in
    let second = and_parts (is_multiple k p.x) (is_multiple k p.y) first.0 in
    (second.0, second.1, first.1)

on_grid : (k : ℕ) (p : Coordinates) → is_multiple k p.x ≡ true → is_multiple k p.y ≡ true → is_multiple k p.z ≡ true → IsOnGrid k p
on_grid k p x y z = rw (x, y, z) refl

coarser : (k : ℕ) (p : Coordinates) → IsOnGrid (suc k) p → IsOnGrid k p
coarser k p h =
    let on = by_coordinates (suc k) p h in
    on_grid k p (is_multiple-half k p.x on.0) (is_multiple-half k p.y on.1) (is_multiple-half k p.z on.2)

middle_on : (k : ℕ) (a b m : Coordinates) → IsOnGrid (suc k) a → IsOnGrid (suc k) b → midpoint a b ≡ Some m → IsOnGrid k m
middle_on k a b m at_a at_b is =
    let middle = midpoint-IsMiddle a b m is in
    let on_a = by_coordinates (suc k) a at_a in
    let on_b = by_coordinates (suc k) b at_b in
    on_grid k m (is_multiple-halfway k a.x b.x m.x middle.x on_a.0 on_b.0) (is_multiple-halfway k a.y b.y m.y middle.y on_a.1 on_b.1) (is_multiple-halfway k a.z b.z m.z middle.z on_a.2 on_b.2)

pieces_on : (k : ℕ) (field : Field) (corners : List Coordinates) → Corners (IsOnGrid (suc k)) corners → AllByRecursion (Corners (IsOnGrid k)) (pieces_of (long_edges field corners) corners)
pieces_on k = all-pieces_of (IsOnGrid (suc k)) (IsOnGrid k) (coarser k) (middle_on k)

stays_on : (k : ℕ) (corners : List Coordinates) → Corners (IsOnGrid (suc k)) corners → Corners (IsOnGrid k) corners
stays_on k = all_weaker (IsOnGrid (suc k)) (IsOnGrid k) (coarser k)

-- ---- cells and marks
abbrev TetIsOn : ℕ → Tetrahedron → Type 0
TetIsOn k tet = Corners (IsOnGrid k) tet.corners

abbrev CellIsOn : ℕ → Cell → Type 0
CellIsOn k cell = Corners (IsOnGrid k) (corners_of cell)

abbrev MarkIsOn : ℕ → CellMark → Type 0
MarkIsOn k mark = CellIsOn k mark.cell

refined_tet_on : (k : ℕ) (field : Field) (tet : Tetrahedron) → TetIsOn (suc k) tet → AllByRecursion (TetIsOn k) (refined_tet field tet)
refined_tet_on k field tet h =
    all-map (Corners (IsOnGrid k)) (TetIsOn k) (λ corners. record tet { corners = corners }) (λ corners on. on) (pieces_of (long_edges field tet.corners) tet.corners) (pieces_on k field tet.corners h)

refined_cell_on : (k : ℕ) (field : Field) (cell : Cell) → CellIsOn (suc k) cell → AllByRecursion (CellIsOn k) (refined_cell field cell)
refined_cell_on k field (Point p) h = (stays_on k (p ∷ []) h, tt)
refined_cell_on k field (Seg s) h = all-map (Corners (IsOnGrid k)) (CellIsOn k) Seg (λ corners on. on) (pieces_of (long_edges field s) s) (pieces_on k field s h)
refined_cell_on k field (Tri t) h =
    elim (is_straight t) as (λ b. AllByRecursion (CellIsOn k) (cond b (Tri t ∷ []) (map Tri (pieces_of (long_edges field t) t)))) [
      | true ↦ (stays_on k t h, tt)
      | false ↦ all-map (Corners (IsOnGrid k)) (CellIsOn k) Tri (λ corners on. on) (pieces_of (long_edges field t) t) (pieces_on k field t h)
    ]

refined_mark_on : (k : ℕ) (field : Field) (mark : CellMark) → MarkIsOn (suc k) mark → AllByRecursion (MarkIsOn k) (refined_mark field mark)
refined_mark_on k field mark h =
    all-map (CellIsOn k) (MarkIsOn k) (λ cell. record mark { cell = cell }) (λ cell on. on) (refined_cell field mark.cell) (refined_cell_on k field mark.cell h)

-- ---- the tests of tetrahedra and marks
tets_from : (k : ℕ) (tets : List Tetrahedron) → are_on_grid k tets ≡ true → AllByRecursion (TetIsOn k) tets
tets_from k tets h =
    all_weaker (λ tet. list_all (is_on_grid k) tet.corners ≡ true) (TetIsOn k) (λ tet. all_pass (is_on_grid k) tet.corners) tets (all_pass (λ tet. list_all (is_on_grid k) tet.corners) tets h)

tets_test : (k : ℕ) (tets : List Tetrahedron) → AllByRecursion (TetIsOn k) tets → are_on_grid k tets ≡ true
tets_test k tets h =
    test_all (λ tet. list_all (is_on_grid k) tet.corners) tets (all_weaker (TetIsOn k) (λ tet. list_all (is_on_grid k) tet.corners ≡ true) (λ tet. test_all (is_on_grid k) tet.corners) tets h)

marks_from : (k : ℕ) (marks : List CellMark) → marks_are_on_grid k marks ≡ true → AllByRecursion (MarkIsOn k) marks
marks_from k marks h =
    all_weaker (λ mark. list_all (is_on_grid k) (corners_of mark.cell) ≡ true) (MarkIsOn k) (λ mark. all_pass (is_on_grid k) (corners_of mark.cell)) marks
    (all_pass (λ mark. list_all (is_on_grid k) (corners_of mark.cell)) marks h)

marks_test : (k : ℕ) (marks : List CellMark) → AllByRecursion (MarkIsOn k) marks → marks_are_on_grid k marks ≡ true
marks_test k marks h =
    test_all (λ mark. list_all (is_on_grid k) (corners_of mark.cell)) marks
    (all_weaker (MarkIsOn k) (λ mark. list_all (is_on_grid k) (corners_of mark.cell) ≡ true) (λ mark. test_all (is_on_grid k) (corners_of mark.cell)) marks h)

-- ---- meshes
refined_tets_on : (k : ℕ) (field : Field) (tets : List Tetrahedron) → are_on_grid (suc k) tets ≡ true → are_on_grid k (ascending_of tet_cmp (flat_map (refined_tet field) tets)) ≡ true
refined_tets_on k field tets h =
    let pieces = flat_map (refined_tet field) tets in
    tets_test k (ascending_of tet_cmp pieces) (all-ascending_of tet_cmp (TetIsOn k) pieces
    (all-flat_map (TetIsOn (suc k)) (TetIsOn k) (refined_tet field) (refined_tet_on k field) tets (tets_from (suc k) tets h)))

refined_marks_on : (k : ℕ) (field : Field) (marks : List CellMark) → marks_are_on_grid (suc k) marks ≡ true
    → marks_are_on_grid k (ascending_of mark_cmp (flat_map (refined_mark field) marks)) ≡ true
refined_marks_on k field marks h =
    let pieces = flat_map (refined_mark field) marks in
    marks_test k (ascending_of mark_cmp pieces) (all-ascending_of mark_cmp (MarkIsOn k) pieces
    (all-flat_map (MarkIsOn (suc k)) (MarkIsOn k) (refined_mark field) (refined_mark_on k field) marks (marks_from (suc k) marks h)))

pub refinement_halves_the_grid : RefinementHalvesTheGrid
refinement_halves_the_grid k field mesh h =
    let both = and_parts (are_on_grid (suc k) mesh.tets) (marks_are_on_grid (suc k) mesh.marks) h in
    let refined = refine field mesh in
    and_from (are_on_grid k refined.tets) (marks_are_on_grid k refined.marks) (refined_tets_on k field mesh.tets both.0) (refined_marks_on k field mesh.marks both.1)
