use Rattle.std.proofs.Common.{◌≡◌, ◌∙◌, ap, rules}
use Rattle.ma_cells.specs.Ascending.{ascending_of}
use Rattle.ma_cells.specs.Cells.{mark_cmp}
use Rattle.ma_cells.specs.Tetrahedron.{tet_cmp}
use Rattle.part_store.specs.Labelled.{corner_set, marks_on}
use Rattle.part_store.proofs.OwnMarks.{named, started_own}
use Rattle.part_store.proofs.store.Store.start.Goals as goal

pub invariant_of-result : goal.invariant_of-result
invariant_of-result c =
    let own = c.args.own.now in
    let marks = c.args.marks.now in
    let corners : c.in_ok-corners.corners ≡ corner_set c.tet_set-tets.result = search rules in (
      corners,
      named c.tet_set-tets.result (ascending_of tet_cmp own) c.mark_set-marks.result (ascending_of mark_cmp (marks_on own marks)) c.in_ok-own_marks.own_marks (c.tet_set-tets.ensures ∙ ap (ascending_of tet_cmp) c.in_ok-from_slice.ensures.items)
          (c.mark_set-marks.ensures ∙ ap (ascending_of mark_cmp) c.in_ok-marks_on.ensures) c.in_ok-own_marks.ensures (started_own own marks),
    )
