use Rattle.std.proofs.Common.{ap, ◌∙◌}
use Rattle.part_rules.specs.Bodies.{first_off}
use Rattle.part_rules.proofs.FirstOff.{found, passed}
use Rattle.part_rules.proofs.bodies.tet_off.Goals as goal

pub returns-in-Some : goal.returns-in-Some
returns-in-Some c = found (λ t. t.corners) c.args.exponent c.args.tets.now c.loop-tet.tet-index c.tet-item.result c.in-Some.place c.loop-tet-test.true c.tet-item.is c.loop-tet.invariant (c.in-Some.ensures ∙ ap (first_off c.args.exponent) c.corners.ensures.value)

pub loop-tet-preserved : goal.loop-tet-preserved
loop-tet-preserved c = passed (λ t. t.corners) c.args.exponent c.args.tets.now c.loop-tet.tet-index c.tet-item.result c.loop-tet-test.true c.tet-item.is c.loop-tet.invariant (c.in-None.ensures ∙ ap (first_off c.args.exponent) c.corners.ensures.value)
