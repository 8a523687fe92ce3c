use Rattle.std.proofs.Common.{◌++◌}
use Rattle.ma_cells.proofs.Ascents.{sorted-ascending_of}
use Rattle.ma_cells.proofs.ascending.Ascending.union.Goals as goal

pub invariant_of-result : goal.invariant_of-result
invariant_of-result g c =
    rw (c.in_ok-items.ensures) (sorted-ascending_of g.met.T.Ord.total (c.as_slice.result.now ++ c.as_slice-2.result.now))
