use Rattle.std.proofs.Common.{◌≡◌, ◌++◌, map, take}
use Rattle.std.specs.List.{filter}
use Rattle.msh_write.specs.steps.Holders.{is_among}
use Rattle.msh_write.proofs.holders.add_cells.Given as goal

abbrev pub invariant-loop-cell : goal.invariant-loop-cell
invariant-loop-cell l = l.holders.items ≡ l.fn.holders.items ++ map (λ cell. (cell, l.label)) (filter (is_among l.marked) (take l.cell-index l.cells))
