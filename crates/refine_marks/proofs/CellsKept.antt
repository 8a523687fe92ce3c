-- The pieces of a cell are cells.
use Rattle.std.proofs.Common.{◌≡◌, ℕ, true, false, cond, ◌&&◌, ◌==◌, List, [], ◌∷◌, length, refl}
use Rattle.std.specs.Prelude.{map}
use Rattle.std.specs.Cmp.Lexicographic.{slice_cmp}
use Rattle.std.specs.List.{AllByRecursion, flat_map}
use Rattle.std.proofs.lemmas.Bool.{and_parts, eqb-true}
use Rattle.ma_geom.specs.Coordinates.{Coordinates, place_cmp}
use Rattle.ma_cells.specs.Ascending.{are_ascending, ascending_of}
use Rattle.ma_cells.specs.Cells.{CellMark, is_cell, mark_cmp}
use Rattle.ma_cells.specs.declared.cell.Cell.{Cell}
use Rattle.ma_cells.specs.declared.cell.Cell.TheVariants.{Point, Seg, Tri}
use Rattle.ma_cells.proofs.Passing.{all-flat_map, all-map, all_pass, test_all}
use Rattle.ma_cells.proofs.SetItems.{all-ascending_of}
use Rattle.size_marks.specs.Field.{Field}
use Rattle.split_templates.specs.Pieces.{is_straight, pieces_of}
use Rattle.split_templates.proofs.Corners.{IsTriangle, triangles}
use Rattle.split_templates.proofs.Shapes.{IsSegment, segments}
use Rattle.split_templates.proofs.Straight.{apex}
use Rattle.refinement.specs.Refinement.{long_edges, refined_cell, refined_mark}
use Rattle.refinement.proofs.Bisecting.{bisected, own_edges, own_edges_rise}
use Rattle.refinement.proofs.Rising.{Rises, its_corners_rise, pieces_rise, rising_cell}
use Rattle.refine_marks.specs.Marks.{RefinementKeepsCells}
use Rattle.refine_marks.proofs.OnHalves.{pieces_of_kind}

pub its_count : (n : ℕ) (corners : List Coordinates) → ((length corners == n) && are_ascending place_cmp corners) ≡ true → length corners ≡ n
its_count n corners is = eqb-true (length corners) n (and_parts (length corners == n) (are_ascending place_cmp corners) is).0

pub all_both : {X : Type 0} (P Q : X → Type 0) (xs : List X) → AllByRecursion P xs → AllByRecursion Q xs → AllByRecursion (λ x. P x × Q x) xs
all_both P Q [] h k = tt
all_both P Q (x ∷ xs) h k = ((h.0, k.0), all_both P Q xs h.1 k.1)

module _ (field : Field) where
  pub pieces_are_cells : (cell : Cell) → is_cell cell ≡ true → AllByRecursion (λ piece. is_cell piece ≡ true) (refined_cell field cell)
  pieces_are_cells (Point p) is = (refl, tt)
  pieces_are_cells (Seg s) is =
      let up = its_corners_rise 2 s is in
      all-map IsSegment (λ piece. is_cell piece ≡ true) Seg (λ r h. rising_cell 2 r h.1 h.0) (pieces_of (long_edges field s) s)
      (all-ascending_of (slice_cmp place_cmp) IsSegment (bisected field s) (pieces_of_kind IsSegment 2 segments (own_edges field s) (own_edges_rise field s up) (s ∷ []) ((up, its_count 2 s is), tt)))
  pieces_are_cells (Tri t) is =
      let up = its_corners_rise 3 t is in
      elim (is_straight t) as (λ b. is_straight t ≡ b → AllByRecursion (λ piece. is_cell piece ≡ true) (cond b (Tri t ∷ []) (map Tri (pieces_of (long_edges field t) t)))) [
        | true ↦ λ _. (is, tt)
        | false ↦ λ bent.
            let top = apex t bent in
            let Kind = IsTriangle top.0 in
            let pieces = pieces_of (long_edges field t) t in
            all-map (λ r. Kind r × Rises r) (λ piece. is_cell piece ≡ true) Tri (λ r h. rising_cell 3 r ((triangles top.0).count r h.0) h.1) pieces
            (all_both Kind Rises pieces
            (all-ascending_of (slice_cmp place_cmp) Kind (bisected field t) (pieces_of_kind Kind 3 (triangles top.0) (own_edges field t) (own_edges_rise field t up) (t ∷ []) (top.1, tt)))
            (pieces_rise (long_edges field t) t up))
      ] refl

pub refinement_keeps_cells : RefinementKeepsCells
refinement_keeps_cells field mesh are =
    let IsCell : CellMark → Type 0 = λ mark. is_cell mark.cell ≡ true in
    let pieces = flat_map (refined_mark field) mesh.marks in
    test_all (λ mark. is_cell mark.cell) (ascending_of mark_cmp pieces) (all-ascending_of mark_cmp IsCell pieces
    (all-flat_map IsCell IsCell (refined_mark field)
    (λ mark h. all-map (λ piece. is_cell piece ≡ true) IsCell (λ cell. record mark { cell = cell }) (λ cell k. k) (refined_cell field mark.cell) (pieces_are_cells field mark.cell h)) mesh.marks
    (all_pass (λ mark. is_cell mark.cell) mesh.marks are)))
