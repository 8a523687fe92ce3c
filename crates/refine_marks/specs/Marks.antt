-- Marks of refined meshes.
use Rattle.std.specs.Prelude.{◌≡◌, Bool, true, List}
use Rattle.std.specs.List.{list_all}
use Rattle.ma_cells.specs.Cells.{CellMark, is_cell}
use Rattle.ma_cells.specs.declared.batch.Batch.{Batch}
use Rattle.ma_cover.specs.Classification.{KeepsClassification}
use Rattle.size_marks.specs.Field.{Field}
use Rattle.refinement.specs.Refinement.{refine}

-- whether each mark is on a cell: a point, a segment with two corners or a triangle with three, each below the next
abbrev pub are_cells : List CellMark → Bool
are_cells marks = list_all (λ mark. is_cell mark.cell) marks

abbrev pub RefinementKeepsCells : Type 0
RefinementKeepsCells = (field : Field) (mesh : Batch) → are_cells mesh.marks ≡ true → are_cells (refine field mesh).marks ≡ true

abbrev pub RefinementKeepsClassification : Type 0
RefinementKeepsClassification = (field : Field) (mesh : Batch) → are_cells mesh.marks ≡ true → KeepsClassification mesh.marks (refine field mesh).marks
