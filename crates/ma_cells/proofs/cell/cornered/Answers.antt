use Rattle.ma_cells.proofs.Cornered.{cell_of-many}
use Rattle.ma_cells.proofs.cell.cornered.Goals as goal

pub returns-in_default : goal.returns-in_default
returns-in_default c = cell_of-many c.args.corners.now c.in_default.len_at_least
