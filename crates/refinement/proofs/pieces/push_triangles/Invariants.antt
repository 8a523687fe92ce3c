use Rattle.std.proofs.Common.{◌≡◌, ◌++◌, map, take}
use Rattle.ma_cells.specs.declared.cell.Cell.TheVariants.{Tri}
use Rattle.refinement.proofs.pieces.push_triangles.Given as goal

-- the parts so far
abbrev pub invariant-loop-part : goal.invariant-loop-part
invariant-loop-part l = l.pieces.items ≡ l.fn.pieces.items ++ map (λ part. record l.mark { cell = Tri part }) (take l.part-index l.cells)
