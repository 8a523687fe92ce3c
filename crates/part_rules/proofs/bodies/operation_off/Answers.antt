use Rattle.std.proofs.Common.{◌++◌, ◌∷◌, []}
use Rattle.part_rules.proofs.FirstOff.{found, passed}
use Rattle.part_rules.proofs.bodies.operation_off.Goals as goal

pub returns-in-Some : goal.returns-in-Some
returns-in-Some c = found (λ o. o.at ++ o.apex ∷ []) c.args.exponent c.args.ops.now c.loop-op.op-index c.op-item.result c.in-Some.place c.loop-op-test.true c.op-item.is c.loop-op.invariant (c.in-Some.ensures)

pub loop-op-preserved : goal.loop-op-preserved
loop-op-preserved c = passed (λ o. o.at ++ o.apex ∷ []) c.args.exponent c.args.ops.now c.loop-op.op-index c.op-item.result c.loop-op-test.true c.op-item.is c.loop-op.invariant (c.in-None.ensures)
