use Rattle.std.proofs.Common.{◌∙◌, sym}
use Rattle.msh_write.proofs.Holding.{parts-step}
use Rattle.msh_write.proofs.holders.add_parts.Goals as goal

pub loop-held-preserved : goal.loop-held-preserved
loop-held-preserved c =
    parts-step c.args.cell.now c.args.part c.args.holders.now c.loop-held.held-index c.loop-held-item.result _ _ _ c.loop-held-test.true c.loop-held-item.is (sym c.is_same.ensures ∙ c.if-not-is_same.false) c.loop-held.invariant
    (rw c.unwrap_or.ensures at c.in_ok-push.ensures.items)
