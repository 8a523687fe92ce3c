-- The law of its order.
use Rattle.collapse_passes.proofs.Adapts.{collapses_go_in_any_order}
use Rattle.collapse_passes.proofs.laws.collapses_go_in_any_order.Goals as goal

pub returns : goal.returns
returns c = collapses_go_in_any_order
