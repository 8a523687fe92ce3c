use Rattle.std.proofs.Common.{◌≡◌, map, take}
use Rattle.msh_write.proofs.holders.marked_cells.Given as goal

abbrev pub invariant-loop-mark : goal.invariant-loop-mark
invariant-loop-mark l = l.cells.items ≡ map (λ mark. mark.cell) (take l.mark-index l.marks)
