use Rattle.plane_laws.proofs.Fans.{plane_keeps_points}
use Rattle.plane_laws.proofs.laws.plane_keeps_points.Goals as goal

pub returns : goal.returns
returns c = plane_keeps_points
