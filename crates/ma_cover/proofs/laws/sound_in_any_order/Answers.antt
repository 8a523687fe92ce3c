use Rattle.ma_cover.proofs.SoundOrder.{sound_in_any_order}
use Rattle.ma_cover.proofs.laws.sound_in_any_order.Goals as goal

pub returns : goal.returns
returns c = sound_in_any_order
