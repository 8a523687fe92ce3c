use Rattle.moved_cells.proofs.Triangles.{triangles_keep_points}
use Rattle.moved_cells.proofs.laws.triangles_keep_points.Goals as goal

pub returns : goal.returns
returns c = triangles_keep_points
