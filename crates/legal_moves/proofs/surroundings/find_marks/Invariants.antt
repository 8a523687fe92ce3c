use Rattle.std.proofs.Common.{◌≡◌, ◌++◌, drop}
use Rattle.ma_cells.specs.Stars.{marks_at}
use Rattle.legal_moves.proofs.surroundings.find_marks.Given as goal

-- those so far, and those of the marks that are left
abbrev pub invariant-loop-mark : goal.invariant-loop-mark
invariant-loop-mark l = l.into.items ++ marks_at l.at (drop l.mark-index l.marks) ≡ marks_at l.at l.marks
