use Rattle.std.proofs.Common.{◌≡◌, ℕ, List, [], ◌++◌}
use Rattle.ma_cells.specs.Cells.{CellMark}
use Rattle.msh_write.specs.Text.{element_line, ended, mark_element, item_lines}
use Rattle.msh_write.proofs.TextLines.{lines_from}
use Rattle.msh_write.proofs.union.put_marks.Given as goal

abbrev pub invariant-loop-index : goal.invariant-loop-index
invariant-loop-index l =
    let line : ℕ → CellMark → List ℕ = λ number mark. element_line l.nodes number (mark_element [] mark) in
    l.out.items ++ ended (lines_from line l.marks l.index) ≡ l.fn.out.items ++ ended (item_lines line l.marks)
