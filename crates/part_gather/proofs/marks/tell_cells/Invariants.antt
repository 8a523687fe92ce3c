use Rattle.std.proofs.Common.{◌≡◌, true, take}
use Rattle.std.specs.List.{AllByRecursion}
use Rattle.ma_cells.specs.Cells.{is_cell}
use Rattle.part_gather.proofs.marks.tell_cells.Given as goal

-- the marks so far are on cells
abbrev pub invariant-loop-mark : goal.invariant-loop-mark
invariant-loop-mark l = AllByRecursion (λ mark. is_cell mark.cell ≡ true) (take l.mark-index l.marks)
