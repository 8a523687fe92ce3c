use Rattle.mesh_check.proofs.Numbered.{corners_on}
use Rattle.mesh_check.proofs.tetrahedra.numbered_corners.Goals as goal

pub loop-index-preserved : goal.loop-index-preserved
loop-index-preserved c =
    let on = corners_on c.loop-index.sets.items c.args.tetrahedra.now c.loop-index.index c.index-tetrahedra-index.result c.loop-index-test.true c.index-tetrahedra-index.is c.loop-index.invariant in
    rw (c.in_ok-push.ensures.items, c.corners.ensures.value) on
