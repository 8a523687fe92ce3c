use Rattle.ma_cells.proofs.SetOperations.{sorted-from_retain}
use Rattle.ma_cells.proofs.ascending.Ascending.retain.Goals as goal

pub invariant_of-self : goal.invariant_of-self
invariant_of-self g c = sorted-from_retain g.T.Ord.cmp _ c.args.keep _ _ c.self.invariant c.retain.ensures.filtered
