use Rattle.std.proofs.Common.{ℕ, List, ◌++◌, ap, ◌∙◌, sym}
use Rattle.ma_cells.specs.Cells.{CellMark}
use Rattle.msh_write.specs.PartText.{resident_element}
use Rattle.msh_write.specs.Text.{element_line, ended}
use Rattle.msh_write.proofs.Holding.{both_ok, marks-alike}
use Rattle.msh_write.proofs.TextLines.{no-lines}
use Rattle.msh_write.proofs.part.put_marks.Goals as goal

pub returns-then-is_empty : goal.returns-then-is_empty
returns-then-is_empty c =
    let line : ℕ → CellMark → List ℕ = λ number mark. element_line c.args.nodes.now number (resident_element c.args.part c.args.members.now mark) in
    no-lines line c.args.marks.now c.args.out.now.items (sym c.is_empty.ensures ∙ c.if-is_empty.true)

pub returns : goal.returns
returns c =
    both_ok c.put_mark_lines.result c.put_mark_lines.ensures.lines c.put_mark_lines.ensures.cells
    (λ lines cells. lines ∙ ap (λ ls. c.args.out.now.items ++ ended ls)
    (marks-alike c.args.nodes.now c.args.part c.in_ok-marked.marked c.args.members.now c.as_slice.result.now c.args.marks.now c.in_ok-marked.ensures
    (c.as_slice.ensures.items ∙ c.in_ok-holders.ensures) c.requires.corners cells))
