use Rattle.ma_cover.proofs.Exchanges.{inside_in_any_order}
use Rattle.ma_cover.proofs.laws.order_of_corners_is_free.Goals as goal

pub returns : goal.returns
returns c = inside_in_any_order
