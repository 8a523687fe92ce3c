use Rattle.std.proofs.Common.{◌≡◌, ◌++◌, IfOk, subst}
use Rattle.ma_cells.specs.Ascending.{ascending_of}
use Rattle.ma_cells.specs.Cells.{mark_cmp}
use Rattle.part_store.proofs.OwnMarks.{union_joined}
use Rattle.part_store.proofs.store.joined_on.Goals as goal

pub returns : goal.returns
returns c =
    subst (λ kept. IfOk c.union.result (λ joined. joined ≡ ascending_of mark_cmp (c.args.marks.now ++ kept))) c.in_ok-marks_on.ensures
    (union_joined c.union.result c.args.marks.now c.mark_set-kept.result c.in_ok-marks_on.field-0.items c.mark_set-kept.ensures c.union.ensures)
