use Rattle.swap_passes.proofs.InTurn.{swaps_go_in_any_order}
use Rattle.swap_passes.proofs.laws.swaps_go_in_any_order.Goals as goal

pub returns : goal.returns
returns c = swaps_go_in_any_order
