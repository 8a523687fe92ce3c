use Rattle.std.proofs.Common.{◌≡◌, ◌++◌, drop}
use Rattle.std.specs.List.{flat_map}
use Rattle.ma_cells.specs.declared.cell.Cell.{Cell}
use Rattle.part_store.specs.Agreement.{marks_of}
use Rattle.part_gather.proofs.marks.marks_of_all.Given as goal

-- those so far, and those on the cells that are left
abbrev pub invariant-loop-cell : goal.invariant-loop-cell
invariant-loop-cell l =
    l.found.items ++ flat_map (λ (cell : Cell). marks_of cell l.marks) (drop l.cell-index l.cells) ≡ flat_map (λ (cell : Cell). marks_of cell l.marks) l.cells
