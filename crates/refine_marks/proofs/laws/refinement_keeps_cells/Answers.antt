use Rattle.refine_marks.proofs.CellsKept.{refinement_keeps_cells}
use Rattle.refine_marks.proofs.laws.refinement_keeps_cells.Goals as goal

pub returns : goal.returns
returns c = refinement_keeps_cells
