use Rattle.ma_cover.proofs.WholeFaces.{off_pieces_is_off_whole}
use Rattle.ma_cover.proofs.laws.off_pieces_is_off_whole.Goals as goal

pub returns : goal.returns
returns c = off_pieces_is_off_whole
