use Rattle.std.proofs.Common.{sym, ap, ◌∙◌}
use Rattle.std.specs.Ordering.{nat_cmp}
use Rattle.ma_cells.specs.Ascending.{has}
use Rattle.ma_cells.specs.Tetrahedron.{Tetrahedron}
use Rattle.ma_cells.specs.Faces.{holds_all}
use Rattle.corner_tables.specs.steps.Near.{picked}
use Rattle.corner_tables.specs.Tables.{positions_from}
use Rattle.corner_tables.proofs.Tables.{found_all, has-place, picked_all, picked_step, position_within}
use Rattle.corner_tables.proofs.table.CornerTable.star.Goals as goal

pub bounds-tets-corner : goal.bounds-tets-corner
bounds-tets-corner c =
    position_within (λ (tet : Tetrahedron). tet.corners) c.args.tets.now c.index-at-0.result _ c.near-corners.result.now c.loop-corner.corner-index c.corner-item.result c.requires.table c.near-corners.ensures c.loop-corner-test.true c.corner-item.is

pub loop-corner-preserved : goal.loop-corner-preserved
loop-corner-preserved c =
    let at = c.args.at.now in
    let tets = c.args.tets.now in
    let corner = c.corner-item.result in
    let within = position_within (λ (tet : Tetrahedron). tet.corners) tets c.index-at-0.result _ c.near-corners.result.now c.loop-corner.corner-index corner c.requires.table c.near-corners.ensures c.loop-corner-test.true c.corner-item.is in
    picked_step tets (λ i. has nat_cmp i (positions_from 0 (λ tet. holds_all tet.corners at) tets)) c.near-corners.result.now c.loop-corner.corner-index corner c.index-tets-corner.result c.loop-corner.into.items _ c.holds.result c.loop-corner-test.true c.corner-item.is
    within c.index-tets-corner.is (c.holds.ensures ∙ sym (has-place (λ (tet : Tetrahedron). tet.corners) tets at corner.position c.index-tets-corner.result within c.index-tets-corner.is)) c.loop-corner.invariant c.in_ok-push_if.ensures

pub returns : goal.returns
returns c =
    c.loop-corner.invariant
    ∙ ap (picked c.args.tets.now) (found_all (λ (tet : Tetrahedron). tet.corners) c.args.tets.now c.args.at.now c.index-at-0.result _ c.near-corners.result.now c.loop-corner.corner-index c.requires.some c.index-at-0.is c.requires.table c.near-corners.ensures c.loop-corner-test.false)
    ∙ picked_all (λ (tet : Tetrahedron). tet.corners) c.args.tets.now c.args.at.now
