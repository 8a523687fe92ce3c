use Rattle.std.proofs.Common.{ap, ◌∙◌}
use Rattle.ma_cells.specs.Cells.{corners_of}
use Rattle.part_rules.specs.Bodies.{first_off}
use Rattle.part_rules.proofs.FirstOff.{found, passed}
use Rattle.part_rules.proofs.bodies.mark_off.Goals as goal

pub returns-in-Some : goal.returns-in-Some
returns-in-Some c = found (λ m. corners_of m.cell) c.args.exponent c.args.marks.now c.loop-mark.mark-index c.mark-item.result c.in-Some.place c.loop-mark-test.true c.mark-item.is c.loop-mark.invariant (c.in-Some.ensures ∙ ap (λ z. first_off c.args.exponent (corners_of z)) c.cell.ensures.value)

pub loop-mark-preserved : goal.loop-mark-preserved
loop-mark-preserved c = passed (λ m. corners_of m.cell) c.args.exponent c.args.marks.now c.loop-mark.mark-index c.mark-item.result c.loop-mark-test.true c.mark-item.is c.loop-mark.invariant (c.in-None.ensures ∙ ap (λ z. first_off c.args.exponent (corners_of z)) c.cell.ensures.value)
