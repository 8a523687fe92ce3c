use Rattle.std.proofs.Common.{◌≡◌, ◌&&◌, ◌++◌, drop, filter}
use Rattle.ma_cells.specs.Ascending.{has}
use Rattle.ma_cells.specs.Cells.{cell_cmp, corners_of}
use Rattle.ma_cells.specs.Faces.{holds_all}
use Rattle.part_store.proofs.marks.push_wanted.Given as goal

-- those so far, and those of the cells that are left
abbrev pub invariant-loop-cell : goal.invariant-loop-cell
invariant-loop-cell l =
    l.found.items ++ filter (λ cell. holds_all l.near (corners_of cell) && has cell_cmp cell l.wanted) (drop l.cell-index l.cells)
    ≡ l.fn.found.items ++ filter (λ cell. holds_all l.near (corners_of cell) && has cell_cmp cell l.wanted) l.cells
