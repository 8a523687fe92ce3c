-- The law of the marks of cavities.
use Rattle.cavity_marks.proofs.Stays.{marks_stay_on_cells}
use Rattle.cavity_marks.proofs.laws.marks_stay_on_cells.Goals as goal

pub returns : goal.returns
returns c = marks_stay_on_cells
