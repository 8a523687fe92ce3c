use Rattle.std.proofs.Common.{◌≡◌, ◌++◌, drop}
use Rattle.std.specs.List.{flat_map}
use Rattle.ma_cells.specs.Cells.{corners_of}
use Rattle.part_store.proofs.marks.corners_of.Given as goal

-- the corners so far, and those of the cells that are left
abbrev pub invariant-loop-cell : goal.invariant-loop-cell
invariant-loop-cell l = l.corners.items ++ flat_map (λ cell. corners_of cell) (drop l.cell-index l.cells) ≡ flat_map (λ cell. corners_of cell) l.cells
