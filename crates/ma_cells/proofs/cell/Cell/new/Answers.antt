use Rattle.ma_cells.proofs.Cornered.{is_cell-of}
use Rattle.ma_cells.proofs.cell.Cell.new.Goals as goal

pub returns-clause-cell : goal.returns-clause-cell
returns-clause-cell c = rw c.cornered.ensures (is_cell-of c.args.corners.now)
