use Rattle.ma_cover.proofs.OneLocation.{location_is_one}
use Rattle.ma_cover.proofs.laws.location_is_one.Goals as goal

pub returns : goal.returns
returns c = location_is_one
