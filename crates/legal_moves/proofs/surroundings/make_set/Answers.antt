use Rattle.ma_cells.proofs.Ascents.{gathered}
use Rattle.legal_moves.proofs.surroundings.make_set.Goals as goal

pub returns : goal.returns
returns g c exact =
    gathered g.met.T.Ord.total exact g.met.T.Ord.matches_eq _ _ _ c.sort_unstable.ensures.permutation c.sort_unstable.ensures.sorted c.dedup.ensures.filtered
