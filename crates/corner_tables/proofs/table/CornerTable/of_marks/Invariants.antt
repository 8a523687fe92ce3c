use Rattle.std.proofs.Common.{◌≡◌, ◌++◌, drop, map}
use Rattle.ma_cells.specs.Cells.{corners_of}
use Rattle.corner_tables.specs.Tables.{corners_from}
use Rattle.corner_tables.proofs.table.CornerTable.of_marks.Given as goal

-- the corners so far, and those of the marks that are left
abbrev pub invariant-loop-i : goal.invariant-loop-i
invariant-loop-i l = l.corners.items ++ corners_from l.i (map (λ mark. corners_of mark.cell) (drop l.i l.marks)) ≡ corners_from 0 (map (λ mark. corners_of mark.cell) l.marks)
