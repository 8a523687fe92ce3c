use Rattle.std.proofs.Common.{◌≡◌, ◌++◌, map, take}
use Rattle.ma_cells.specs.declared.cell.Cell.TheVariants.{Seg}
use Rattle.refinement.proofs.pieces.push_segments.Given as goal

-- the halves so far
abbrev pub invariant-loop-half : goal.invariant-loop-half
invariant-loop-half l = l.pieces.items ≡ l.fn.pieces.items ++ map (λ half. record l.mark { cell = Seg half }) (take l.half-index l.cells)
