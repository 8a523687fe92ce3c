use Rattle.std.proofs.Common.{◌≡◌, ◌++◌, ◌∷◌, [], drop}
use Rattle.ma_cells.specs.Stars.{marks_at}
use Rattle.part_store.proofs.marks.marks_at.Given as goal

-- those so far, and those of the marks that are left
abbrev pub invariant-loop-mark : goal.invariant-loop-mark
invariant-loop-mark l = l.there.items ++ marks_at (l.corner ∷ []) (drop l.mark-index l.marks) ≡ marks_at (l.corner ∷ []) l.marks
