use Rattle.std.proofs.lemmas.List.Kept.{IsStrictlySortedBy-filter}
use Rattle.ma_cells.proofs.ascending.Ascending.difference.Goals as goal

pub invariant_of-result : goal.invariant_of-result
invariant_of-result g c =
    rw (c.in_ok-items.ensures) (IsStrictlySortedBy-filter g.T.Ord.cmp _ c.as_slice.result.now c.as_slice.ensures.rises)
