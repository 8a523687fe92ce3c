use Rattle.moved_cells.proofs.Segments.{segments_keep_points}
use Rattle.moved_cells.proofs.laws.segments_keep_points.Goals as goal

pub returns : goal.returns
returns c = segments_keep_points
