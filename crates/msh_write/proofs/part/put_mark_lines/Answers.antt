use Rattle.std.proofs.Common.{◌≡◌, ℕ, List, All, true, subst, arith}
use Rattle.std.proofs.lemmas.List.{take_all}
use Rattle.std.proofs.lemmas.List.Elements.{All-more}
use Rattle.ma_cells.specs.Cells.{CellMark, is_cell}
use Rattle.msh_write.specs.steps.Holders.{holder_element}
use Rattle.msh_write.specs.Text.{element_line}
use Rattle.msh_write.proofs.TextLines.{lines-end, lines-step}
use Rattle.msh_write.proofs.part.put_mark_lines.Goals as goal

pub loop-index-preserved : goal.loop-index-preserved
loop-index-preserved c =
    let line : ℕ → CellMark → List ℕ = λ number mark. element_line c.args.nodes.now number (holder_element c.args.part c.args.holders.now mark) in
    record {
      lines = lines-step line c.args.marks.now c.loop-index.index c.index-marks-index.result _ _ _ c.loop-index-test.true c.index-marks-index.is c.loop-index.invariant.lines c.in_ok-put_mark.ensures.line;
      cells = All-more (λ mark. is_cell mark.cell ≡ true) c.args.marks.now c.loop-index.index c.index-marks-index.result c.loop-index-test.true c.loop-index.invariant.cells
          (subst (λ mark. is_cell mark.cell ≡ true) c.index-marks-index.is c.put_mark.ensures.cell);
    }

pub returns-clause-lines : goal.returns-clause-lines
returns-clause-lines c =
    let line : ℕ → CellMark → List ℕ = λ number mark. element_line c.args.nodes.now number (holder_element c.args.part c.args.holders.now mark) in
    lines-end line c.args.marks.now c.loop-index.index _ _ (omega arith) c.loop-index.invariant.lines

pub returns-clause-cells : goal.returns-clause-cells
returns-clause-cells c =
    subst (λ marks. All (λ mark. is_cell mark.cell ≡ true) marks) (take_all c.loop-index.index c.args.marks.now (omega arith)) c.loop-index.invariant.cells
