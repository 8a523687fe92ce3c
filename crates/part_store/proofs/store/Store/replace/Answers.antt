use Rattle.std.proofs.Common.{◌≡◌, ◌∙◌, ap, rules, sym}
use Rattle.ma_cells.specs.Ascending.{ascending_of}
use Rattle.ma_cells.specs.Cells.{mark_cmp}
use Rattle.part_store.specs.Labelled.{corner_set, marks_on}
use Rattle.part_store.proofs.OwnMarks.{kept_own, named}
use Rattle.part_store.proofs.store.Store.replace.Goals as goal

pub invariant_of-self : goal.invariant_of-self
invariant_of-self c =
    let own = c.as_slice-3.result.now in
    let marks = c.as_slice-4.result.now in
    let corners : c.in_ok-corners.corners ≡ corner_set c.in_ok-own.own = search rules in (
      corners,
      named c.in_ok-own.own own c.mark_set-marks.result (ascending_of mark_cmp (marks_on own marks)) c.in_ok-own_marks.own_marks (sym c.as_slice-3.ensures.items) (c.mark_set-marks.ensures ∙ ap (ascending_of mark_cmp) c.in_ok-marks_on.ensures)
          c.in_ok-own_marks.ensures (kept_own own marks),
    )
