use Rattle.std.proofs.Common.{ℕ, List, [], arith}
use Rattle.ma_cells.specs.Cells.{CellMark}
use Rattle.msh_write.specs.Text.{element_line, mark_element}
use Rattle.msh_write.proofs.TextLines.{lines-end, lines-step}
use Rattle.msh_write.proofs.union.put_marks.Goals as goal

pub loop-index-preserved : goal.loop-index-preserved
loop-index-preserved c =
    let line : ℕ → CellMark → List ℕ = λ number mark. element_line c.args.nodes.now number (mark_element [] mark) in
    lines-step line c.args.marks.now c.loop-index.index c.index-marks-index.result _ _ _ c.loop-index-test.true c.index-marks-index.is c.loop-index.invariant c.in_ok-put_mark.ensures

pub returns : goal.returns
returns c =
    let line : ℕ → CellMark → List ℕ = λ number mark. element_line c.args.nodes.now number (mark_element [] mark) in
    lines-end line c.args.marks.now c.loop-index.index _ _ (omega arith) c.loop-index.invariant
