use Rattle.part_gather.proofs.Found.{listed_next}
use Rattle.part_gather.proofs.marks.cells_of.Goals as goal

pub loop-tet-preserved : goal.loop-tet-preserved
loop-tet-preserved c cell real =
    listed_next c.loop-tet.cells.items c.cells.result _ c.args.tets.now c.loop-tet.tet-index c.tet-item.result _ cell c.loop-tet-test.true c.tet-item.is
    c.in_ok-extend_from_slice.ensures.items (c.cells.ensures.has cell real) (c.loop-tet.invariant cell real)
