use Rattle.std.proofs.Common.{◌≡◌, ℕ, List, ◌++◌, All, true, take}
use Rattle.ma_cells.specs.Cells.{CellMark}
use Rattle.msh_write.specs.steps.Holders.{holder_element}
use Rattle.ma_cells.specs.Cells.{is_cell}
use Rattle.msh_write.specs.Text.{element_line, ended, item_lines}
use Rattle.msh_write.proofs.TextLines.{lines_from}
use Rattle.msh_write.proofs.part.put_mark_lines.Given as goal

abbrev pub invariant-loop-index : goal.invariant-loop-index
invariant-loop-index l =
    let line : ℕ → CellMark → List ℕ = λ number mark. element_line l.nodes number (holder_element l.part l.holders mark) in
    record {
      lines : l.out.items ++ ended (lines_from line l.marks l.index) ≡ l.fn.out.items ++ ended (item_lines line l.marks);
      cells : All (λ mark. is_cell mark.cell ≡ true) (take l.index l.marks);
    }
