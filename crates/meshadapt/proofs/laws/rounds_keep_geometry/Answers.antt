use Rattle.meshadapt.proofs.Kept.{rounds_keep_geometry}
use Rattle.meshadapt.proofs.laws.rounds_keep_geometry.Goals as goal

pub returns : goal.returns
returns c = rounds_keep_geometry
