use Rattle.std.proofs.Common.{◌≡◌, ◌||◌, true, drop}
use Rattle.ma_cells.specs.Ascending.{has}
use Rattle.ma_cells.specs.Cells.{cell_cmp, is_cell}
use Rattle.ma_cells.specs.Incidence.{is_on}
use Rattle.ma_cells.specs.declared.cell.Cell.{Cell}
use Rattle.part_gather.proofs.marks.cells_of.Given as goal

-- a cell is listed, or on the tetrahedra that are left
abbrev pub invariant-loop-tet : goal.invariant-loop-tet
invariant-loop-tet l =
    (cell : Cell) → is_cell cell ≡ true → (has cell_cmp cell l.cells.items || is_on (drop l.tet-index l.tets) cell) ≡ is_on l.tets cell
