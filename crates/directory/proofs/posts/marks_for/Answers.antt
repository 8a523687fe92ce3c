use Rattle.std.proofs.Common.{◌==◌}
use Rattle.ma_cells.specs.Cells.{CellMark}
use Rattle.directory.specs.Homes.{home_of}
use Rattle.directory.specs.Posting.{least_corner}
use Rattle.directory.proofs.Selected.{kept_rises}
use Rattle.directory.proofs.posts.marks_for.Goals as goal

pub from_vec-requires : goal.from_vec-requires
from_vec-requires c =
    kept_rises _ (λ (mark : CellMark). home_of c.args.j c.args.parts (least_corner mark.cell) == c.args.target) c.loop-mark.kept.items c.as_slice-mark-items.result.now c.args.marks.now c.loop-mark.mark-index
    c.as_slice-mark-items.ensures.rises c.as_slice-mark-items.ensures.items c.loop-mark-test.false c.loop-mark.invariant
