use Rattle.part_store.proofs.FoundMarks.{found_next}
use Rattle.part_store.proofs.marks.found_on.Goals as goal

pub loop-tet-preserved : goal.loop-tet-preserved
loop-tet-preserved c cell real =
    found_next c.args.wanted.now c.loop-tet.found.items c.push_found.new.found.items c.args.tets.now c.loop-tet.tet-index c.tet-item.result _ cell c.loop-tet-test.true c.tet-item.is
    (c.in_ok-push_found.ensures cell real) (c.loop-tet.invariant cell real)
