use Rattle.std.proofs.Common.{◌∙◌}
use Rattle.part_gather.specs.Ordered.{after_orders}
use Rattle.part_core.proofs.passes.take_deliveries.Goals as goal

pub returns : goal.returns
returns c = c.in_ok-take_deliveries.ensures.ok ∙ (λ i. after_orders c.args.store.now (c.as_slice.ensures.value i) (c.in_ok-got.ensures i))
