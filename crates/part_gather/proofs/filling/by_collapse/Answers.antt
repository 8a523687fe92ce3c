use Rattle.std.proofs.Common.{◌≡◌, IfOk, ap, subst}
use Rattle.ma_cells.specs.Ascending.{ascending_of}
use Rattle.ma_cells.specs.Cells.{mark_cmp}
use Rattle.part_gather.proofs.Changing.{marks_left}
use Rattle.part_gather.proofs.filling.by_collapse.Goals as goal

pub returns-clause-marks : goal.returns-clause-marks
returns-clause-marks c =
    subst (λ marks. IfOk c.result.result (λ batch. batch.marks ≡ marks)) (ap (ascending_of mark_cmp) (marks_left c.args.a c.args.v c.args.marks.now c.tell_cells.ensures)) c.result.ensures.marks
