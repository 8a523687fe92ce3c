use Rattle.std.proofs.Common.{◌≡◌, ◌==◌, ◌++◌, drop, filter}
use Rattle.ma_cells.specs.Cells.{CellMark}
use Rattle.directory.specs.Homes.{home_of}
use Rattle.directory.specs.Posting.{least_corner}
use Rattle.directory.proofs.posts.marks_for.Given as goal

-- those so far, and those of the marks that are left
abbrev pub invariant-loop-mark : goal.invariant-loop-mark
invariant-loop-mark l =
    l.kept.items ++ filter (λ (mark : CellMark). home_of l.j l.parts (least_corner mark.cell) == l.target) (drop l.mark-index l.mark-items)
    ≡ filter (λ (mark : CellMark). home_of l.j l.parts (least_corner mark.cell) == l.target) l.marks
