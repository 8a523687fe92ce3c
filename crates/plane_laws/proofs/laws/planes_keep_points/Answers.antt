use Rattle.plane_laws.proofs.Planes.{planes_keep_points}
use Rattle.plane_laws.proofs.laws.planes_keep_points.Goals as goal

pub returns : goal.returns
returns c = planes_keep_points
