use Rattle.std.proofs.Common.{sym, ap, ◌∙◌}
use Rattle.std.specs.Ordering.{nat_cmp}
use Rattle.ma_cells.specs.Ascending.{has}
use Rattle.ma_cells.specs.Cells.{CellMark, corners_of}
use Rattle.ma_cells.specs.Faces.{holds_all}
use Rattle.corner_tables.specs.steps.Near.{picked}
use Rattle.corner_tables.specs.Tables.{positions_from}
use Rattle.corner_tables.proofs.Tables.{found_all, has-place, picked_all, picked_step, position_within}
use Rattle.corner_tables.proofs.table.CornerTable.marks_at.Goals as goal

pub bounds-marks-corner : goal.bounds-marks-corner
bounds-marks-corner c =
    position_within (λ (mark : CellMark). corners_of mark.cell) c.args.marks.now c.index-at-0.result _ c.near-corners.result.now c.loop-corner.corner-index c.corner-item.result c.requires.table c.near-corners.ensures c.loop-corner-test.true c.corner-item.is

pub loop-corner-preserved : goal.loop-corner-preserved
loop-corner-preserved c =
    let at = c.args.at.now in
    let marks = c.args.marks.now in
    let corner = c.corner-item.result in
    let within = position_within (λ (mark : CellMark). corners_of mark.cell) marks c.index-at-0.result _ c.near-corners.result.now c.loop-corner.corner-index corner c.requires.table c.near-corners.ensures c.loop-corner-test.true c.corner-item.is in
    picked_step marks (λ i. has nat_cmp i (positions_from 0 (λ mark. holds_all (corners_of mark.cell) at) marks)) c.near-corners.result.now c.loop-corner.corner-index corner c.index-marks-corner.result c.loop-corner.into.items _ c.holds.result c.loop-corner-test.true c.corner-item.is
    within c.index-marks-corner.is (c.holds.ensures ∙ sym (has-place (λ (mark : CellMark). corners_of mark.cell) marks at corner.position c.index-marks-corner.result within c.index-marks-corner.is)) c.loop-corner.invariant c.in_ok-push_if.ensures

pub returns : goal.returns
returns c =
    c.loop-corner.invariant
    ∙ ap (picked c.args.marks.now) (found_all (λ (mark : CellMark). corners_of mark.cell) c.args.marks.now c.args.at.now c.index-at-0.result _ c.near-corners.result.now c.loop-corner.corner-index c.requires.some c.index-at-0.is c.requires.table c.near-corners.ensures c.loop-corner-test.false)
    ∙ picked_all (λ (mark : CellMark). corners_of mark.cell) c.args.marks.now c.args.at.now
