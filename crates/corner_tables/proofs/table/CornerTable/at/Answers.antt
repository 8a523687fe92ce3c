use Rattle.std.proofs.Common.{◌<◌, sym, subst, length, ◌∙◌}
use Rattle.std.specs.List.{All}
use Rattle.std.specs.Ordering.{nat_cmp}
use Rattle.std.proofs.lemmas.List.Elements.{All-from_recursion}
use Rattle.ma_cells.specs.Ascending.{has}
use Rattle.ma_cells.specs.Faces.{holds_all}
use Rattle.ma_cells.specs.Tetrahedron.{Tetrahedron}
use Rattle.corner_tables.specs.Tables.{positions_from}
use Rattle.corner_tables.proofs.Tables.{positions_below}
use Rattle.corner_tables.proofs.Tables.{found_all, has-place, kept_step, position_within}
use Rattle.corner_tables.proofs.table.CornerTable.at.Goals as goal

pub bounds-tets-position : goal.bounds-tets-position
bounds-tets-position c =
    position_within (λ (tet : Tetrahedron). tet.corners) c.args.tets.now c.index-at-0.result _ c.near-corners.result.now c.loop-corner.corner-index c.corner-item.result c.requires.table c.near-corners.ensures c.loop-corner-test.true c.corner-item.is

pub loop-corner-preserved : goal.loop-corner-preserved
loop-corner-preserved c =
    let at = c.args.at.now in
    let tets = c.args.tets.now in
    let corner = c.corner-item.result in
    let within : corner.position < length tets =
    position_within (λ (tet : Tetrahedron). tet.corners) tets c.index-at-0.result _ c.near-corners.result.now c.loop-corner.corner-index corner c.requires.table c.near-corners.ensures c.loop-corner-test.true c.corner-item.is in
    kept_step (λ i. has nat_cmp i (positions_from 0 (λ tet. holds_all tet.corners at) tets)) c.near-corners.result.now c.loop-corner.corner-index corner c.loop-corner.into.items _ c.holds.result c.loop-corner-test.true c.corner-item.is
    (c.holds.ensures ∙ sym (has-place (λ (tet : Tetrahedron). tet.corners) tets at corner.position c.index-tets-position.result within c.index-tets-position.is)) c.loop-corner.invariant c.in_ok-push_if.ensures

pub returns-clause-value : goal.returns-clause-value
returns-clause-value c =
    c.loop-corner.invariant
    ∙ found_all (λ (tet : Tetrahedron). tet.corners) c.args.tets.now c.args.at.now c.index-at-0.result _ c.near-corners.result.now c.loop-corner.corner-index c.requires.some c.index-at-0.is c.requires.table c.near-corners.ensures c.loop-corner-test.false

pub returns-clause-bound : goal.returns-clause-bound
returns-clause-bound c =
    subst (λ is. All (λ i. i < length c.args.tets.now) is) (sym (returns-clause-value c)) (All-from_recursion _ _ (positions_below (λ tet. holds_all tet.corners c.args.at.now) c.args.tets.now))
