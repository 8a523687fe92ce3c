use Rattle.ma_cells.proofs.Ascents.{counted, gathered, strict-dedup}
use Rattle.ma_cells.proofs.ascending.Ascending.gather.Goals as goal

pub invariant_of-result : goal.invariant_of-result
invariant_of-result g c =
    strict-dedup g.met.T.Ord.total g.met.T.Ord.matches_eq _ _ c.sort_unstable.ensures.sorted c.dedup.ensures.filtered

pub returns-clause-rises : goal.returns-clause-rises
returns-clause-rises g c = invariant_of-result g c

pub returns-clause-is : goal.returns-clause-is
returns-clause-is g c exact =
    gathered g.met.T.Ord.total exact g.met.T.Ord.matches_eq _ _ _ c.sort_unstable.ensures.permutation c.sort_unstable.ensures.sorted c.dedup.ensures.filtered

pub returns-clause-count : goal.returns-clause-count
returns-clause-count g c exact = counted g.met.T.Ord.total _ _ _ c.args.items.ok.0 (returns-clause-is g c exact)
