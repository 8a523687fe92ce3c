use Rattle.std.proofs.Common.{◌≡◌, ◌++◌, drop, filter}
use Rattle.ma_geom.specs.Coordinates.{place_cmp}
use Rattle.ma_cells.specs.Ascending.{has}
use Rattle.ma_cells.specs.Cells.{CellMark}
use Rattle.directory.specs.Posting.{least_corner}
use Rattle.directory.proofs.replies.push_marks.Given as goal

-- those so far, and those of the marks that are left
abbrev pub invariant-loop-mark : goal.invariant-loop-mark
invariant-loop-mark l =
    l.into.items ++ filter (λ (mark : CellMark). has place_cmp (least_corner mark.cell) l.places) (drop l.mark-index l.marks)
    ≡ l.fn.into.items ++ filter (λ (mark : CellMark). has place_cmp (least_corner mark.cell) l.places) l.marks
