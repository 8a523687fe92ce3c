-- The cells of corners in ascending order are those of whose corners each is among them.
use Rattle.std.proofs.Common.{◌≡◌, ℕ, Bool, true, false, ◌&&◌, ◌||◌, eqb, List, [], ◌∷◌, ◌++◌, length, refl, sym, ap, ◌∙◌, eqb-true}
use Rattle.std.specs.Prelude.{map}
use Rattle.std.specs.Cmp.Lexicographic.{slice_cmp}
use Rattle.std.specs.List.{list_any}
use Rattle.std.specs.Ordering.{eq_by_cmp, is_eq}
use Rattle.std.proofs.lemmas.Bool.{and_parts}
use Rattle.std.proofs.lemmas.List.Folds.{list_any-append}
use Rattle.ma_geom.specs.Coordinates.{Coordinates, place_cmp}
use Rattle.ma_geom.proofs.PlaceOrder.{place_cmp_total}
use Rattle.ma_cells.specs.Ascending.{are_ascending, has}
use Rattle.ma_cells.specs.Cells.{cell_cmp, corners_of, is_cell}
use Rattle.ma_cells.specs.Faces.{choices, edges_of, faces_of, holds_all}
use Rattle.ma_cells.specs.Incidence.{cells_of}
use Rattle.ma_cells.specs.declared.cell.Cell.{Cell}
use Rattle.ma_cells.specs.declared.cell.Cell.TheVariants.{Point, Seg, Tri}
use Rattle.ma_cells.proofs.Ascents.{strict_from_ascending}
use Rattle.ma_cells.proofs.Choices.{has-choices}
use Rattle.ma_cells.proofs.Passing.{any-map}

any-none : {X : Type 0} (xs : List X) → list_any (λ x. false) xs ≡ false
any-none [] = refl
any-none (x ∷ xs) = any-none xs

or_false : (b : Bool) → (b || false) ≡ b
or_false true = refl
or_false false = refl

-- a cell among those of one kind
any-cells : (cell : Cell) (corners : List Coordinates) → has cell_cmp cell (cells_of corners)
    ≡ (list_any (λ p. is_eq (cell_cmp cell (Point p))) corners || (list_any (λ s. is_eq (cell_cmp cell (Seg s))) (edges_of corners) || list_any (λ t. is_eq (cell_cmp cell (Tri t))) (faces_of corners)))
any-cells cell corners =
    list_any-append (eq_by_cmp cell_cmp cell) (map Point corners) (map Seg (edges_of corners) ++ map Tri (faces_of corners))
    ∙ ap (λ b. list_any (eq_by_cmp cell_cmp cell) (map Point corners) || b) (list_any-append (eq_by_cmp cell_cmp cell) (map Seg (edges_of corners)) (map Tri (faces_of corners)))
    ∙ ap (λ b. b || (list_any (eq_by_cmp cell_cmp cell) (map Seg (edges_of corners)) || list_any (eq_by_cmp cell_cmp cell) (map Tri (faces_of corners)))) (any-map (eq_by_cmp cell_cmp cell) Point corners)
    ∙ ap (λ b. list_any (λ p. is_eq (cell_cmp cell (Point p))) corners || (b || list_any (eq_by_cmp cell_cmp cell) (map Tri (faces_of corners)))) (any-map (eq_by_cmp cell_cmp cell) Seg (edges_of corners))
    ∙ ap (λ b. list_any (λ p. is_eq (cell_cmp cell (Point p))) corners || (list_any (λ s. is_eq (cell_cmp cell (Seg s))) (edges_of corners) || b)) (any-map (eq_by_cmp cell_cmp cell) Tri (faces_of corners))

and_true : (b : Bool) → (b && true) ≡ b
and_true true = refl
and_true false = refl

chosen : (n : ℕ) (places corners : List Coordinates) → (eqb (length places) n && are_ascending place_cmp places) ≡ true → are_ascending place_cmp corners ≡ true
    → has (slice_cmp place_cmp) places (choices n corners) ≡ holds_all corners places
chosen n places corners h rise =
    let both = and_parts (eqb (length places) n) (are_ascending place_cmp places) h in
    let count : length places ≡ n = eqb-true (length places) n both.0 in
    ap (λ k. has (slice_cmp place_cmp) places (choices k corners)) (sym count)
    ∙ has-choices place_cmp_total places corners (strict_from_ascending place_cmp_total places both.1) (strict_from_ascending place_cmp_total corners rise)

pub has-cells_of : (corners : List Coordinates) → are_ascending place_cmp corners ≡ true → (cell : Cell) → is_cell cell ≡ true → has cell_cmp cell (cells_of corners) ≡ holds_all corners (corners_of cell)
has-cells_of corners rise (Point p) h =
    any-cells (Point p) corners
    ∙ ap (λ b. has place_cmp p corners || (b || list_any (λ t. false) (faces_of corners))) (any-none (edges_of corners))
    ∙ ap (λ b. has place_cmp p corners || b) (any-none (faces_of corners))
    ∙ or_false (has place_cmp p corners) ∙ sym (and_true (has place_cmp p corners))
has-cells_of corners rise (Seg s) h =
    any-cells (Seg s) corners
    ∙ ap (λ b. b || (has (slice_cmp place_cmp) s (edges_of corners) || list_any (λ t. false) (faces_of corners))) (any-none corners)
    ∙ ap (λ b. has (slice_cmp place_cmp) s (edges_of corners) || b) (any-none (faces_of corners))
    ∙ or_false (has (slice_cmp place_cmp) s (edges_of corners)) ∙ chosen 2 s corners h rise
has-cells_of corners rise (Tri t) h =
    any-cells (Tri t) corners
    ∙ ap (λ b. b || (list_any (λ s. false) (edges_of corners) || has (slice_cmp place_cmp) t (faces_of corners))) (any-none corners)
    ∙ ap (λ b. b || has (slice_cmp place_cmp) t (faces_of corners)) (any-none (edges_of corners))
    ∙ chosen 3 t corners h rise
