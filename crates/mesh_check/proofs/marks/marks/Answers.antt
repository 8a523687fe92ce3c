use Rattle.std.proofs.Common.{◌∙◌, ◌++◌, ap}
use Rattle.ma_cells.specs.Ascending.{ascending_of}
use Rattle.ma_cells.specs.Cells.{mark_cmp}
use Rattle.mesh_check.specs.Marks.{outer_marks}
use Rattle.mesh_check.proofs.Marking.{set-is}
use Rattle.mesh_check.proofs.marks.marks.Goals as goal

pub returns-clause-marks : goal.returns-clause-marks
returns-clause-marks c =
    c.mark_set.ensures
    ∙ set-is (c.in_ok-marks.marks.items ++ outer_marks c.args.tets.now) c.push_outer_marks.new.marks.items c.in_ok-push_outer_marks.ensures
    ∙ ap (λ xs. ascending_of mark_cmp (xs ++ outer_marks c.args.tets.now)) c.in_ok-marks.ensures.marks
