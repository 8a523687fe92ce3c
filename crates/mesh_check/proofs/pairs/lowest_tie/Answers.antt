use Rattle.mesh_check.proofs.Tied.{tied_on}
use Rattle.mesh_check.proofs.pairs.lowest_tie.Goals as goal

pub loop-item-preserved : goal.loop-item-preserved
loop-item-preserved g c =
    tied_on g.K.Ord.cmp c.loop-item.lowest c.loop-item.last.now _ c.loop-item.item-index c.item-item.result _ c.lower-lowest.result _ c.loop-item-test.true c.item-item.is c.tie.ensures c.lower-lowest.ensures c.loop-item.invariant
