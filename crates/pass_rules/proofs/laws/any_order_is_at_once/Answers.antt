use Rattle.pass_rules.proofs.AnyOrder.{any_order_is_at_once}
use Rattle.pass_rules.proofs.laws.any_order_is_at_once.Goals as goal

pub returns : goal.returns
returns c = any_order_is_at_once
