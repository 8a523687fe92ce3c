use Rattle.world_run.proofs.Together.{owned_by}
use Rattle.world_run.proofs.uniting.owned_marks.Goals as goal

pub returns : goal.returns
returns c =
    owned_by c.args.store.now c.in_ok-view.view c.as_slice.result.now c.in_ok-lesser.lesser.items c.as_slice-2.result.now c.in_ok-others.others c.in_ok-own.own c.in_ok-owned.owned
    c.in_ok-view.ensures c.as_slice.ensures.items c.in_ok-lesser.ensures c.as_slice-2.ensures.value c.in_ok-others.ensures c.in_ok-own.ensures c.in_ok-owned.ensures
