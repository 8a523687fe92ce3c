-- Each mark of an accepted mesh is on a cell with its corners in ascending order.
use Rattle.std.proofs.Common.{◌≡◌, ℕ, true, false, cond, List, ◌++◌, Option, Some, None, option_map}
use Rattle.std.specs.Prelude.{ℤ, pos, Bool, IfSome}
use Rattle.std.specs.List.{filter_map, flat_map, list_all}
use Rattle.std.specs.Option.{option_and_then}
use Rattle.ma_geom.specs.Coordinates.{Coordinates}
use Rattle.ma_cells.specs.Cells.{CellMark, cell_of, is_cell, mark_cmp, mark_on}
use Rattle.ma_cells.specs.Tetrahedron.{Tetrahedron}
use Rattle.ma_cells.specs.declared.cell.Cell.{Cell}
use Rattle.ma_cells.specs.Incidence.{is_on}
use Rattle.ma_cells.proofs.Choices.{all-append}
use Rattle.ma_cells.proofs.Cornered.{is_cell-of}
use Rattle.ma_cells.proofs.Passing.{all-filter_map, all_anyway, test_all}
use Rattle.ma_cells.proofs.SetItems.{all-ascending_of}
use Rattle.msh_read.specs.Raw.{Raw}
use Rattle.msh_read.specs.declared.raw.RawMark.{RawMark}
use Rattle.mesh_check.specs.Lone.{lone}
use Rattle.mesh_check.specs.Marks.{outer_marks, side_cmp, sides_of}
use Rattle.mesh_check.specs.steps.FoundMarks.{found_marks, kept_mark, shifted_mark}
use Rattle.mesh_check.specs.steps.Tetrahedra.{places_of}

abbrev IsOfCell : CellMark → Type 0
IsOfCell mark = is_cell mark.cell ≡ true

of_mark_on : (corners : List Coordinates) (phys elem : ℤ) → IfSome (mark_on corners phys elem) IsOfCell
of_mark_on corners phys elem =
    elim (cell_of corners) as (λ found. IfSome found (λ cell. is_cell cell ≡ true) → IfSome (option_map (λ cell. record { cell = cell; phys = phys; elem = elem }) found) IsOfCell) [
      | None ↦ λ _. tt
      | Some cell ↦ λ h. h
    ] (is_cell-of corners)

pub of_shifted : (nodes : List Coordinates) (shift : ℕ) (mark : RawMark) → IfSome (shifted_mark nodes shift mark) (λ m. is_cell m.cell ≡ true)
unfolding shifted_mark
of_shifted nodes shift mark =
    elim (places_of nodes shift mark.at.items) as (λ found. IfSome (option_and_then (λ corners. mark_on corners mark.phys mark.elem) found) IsOfCell) [
      | None ↦ tt
      | Some corners ↦ of_mark_on corners mark.phys mark.elem
    ]

of_kept : (test : Cell → Bool) (found : Option CellMark) → IfSome found IsOfCell → IfSome (option_and_then (λ moved. cond (test moved.cell) (Some moved) None) found) IsOfCell
of_kept test None h = tt
of_kept test (Some mark) h = elim (test mark.cell) as (λ b. IfSome (cond b (Some mark) None) IsOfCell) [ true ↦ h | false ↦ tt ]

pub marks_are_cells : (raw : Raw) (shift : ℕ) (tets : List Tetrahedron) → list_all (λ mark. is_cell mark.cell) (found_marks raw shift tets) ≡ true
marks_are_cells raw shift tets =
    let kept : List CellMark = filter_map (kept_mark (is_on tets) raw.nodes shift) raw.marks in
    let kept_all = all-filter_map (λ (m : RawMark). Unit {0}) IsOfCell (kept_mark (is_on tets) raw.nodes shift) (λ m _. of_kept (is_on tets) (shifted_mark raw.nodes shift m) (of_shifted raw.nodes shift m)) raw.marks (all_anyway raw.marks) in
    let sides = lone side_cmp (flat_map sides_of tets) in
    let outer_all = all-filter_map (λ (s : List Coordinates × (ℤ × ℤ)). Unit {0}) IsOfCell (λ side. mark_on side.0 (pos 0) (pos 0)) (λ side _. of_mark_on side.0 (pos 0) (pos 0)) sides (all_anyway sides) in
    test_all (λ mark. is_cell mark.cell) (found_marks raw shift tets) (all-ascending_of mark_cmp IsOfCell (kept ++ outer_marks tets) (all-append IsOfCell kept (outer_marks tets) kept_all outer_all))
