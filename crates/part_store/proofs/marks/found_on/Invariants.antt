use Rattle.std.proofs.Common.{◌≡◌, ◌&&◌, ◌||◌, true, drop}
use Rattle.ma_cells.specs.Ascending.{has}
use Rattle.ma_cells.specs.Cells.{cell_cmp, is_cell}
use Rattle.ma_cells.specs.Incidence.{is_on}
use Rattle.ma_cells.specs.declared.cell.Cell.{Cell}
use Rattle.part_store.proofs.marks.found_on.Given as goal

-- what is found so far, and what will be on the tetrahedra that are left
abbrev pub invariant-loop-tet : goal.invariant-loop-tet
invariant-loop-tet l =
    (cell : Cell) → is_cell cell ≡ true
    → (has cell_cmp cell l.found.items || (has cell_cmp cell l.wanted && is_on (drop l.tet-index l.tets) cell)) ≡ (has cell_cmp cell l.wanted && is_on l.tets cell)
