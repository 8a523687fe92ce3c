use Rattle.ma_cells.proofs.Equalities.{mark_eq-is}
use Rattle.ma_cells.proofs.tests.are_equal.Goals as goal

pub returns : goal.returns
returns c = rw c.eq.ensures (mark_eq-is c.args.m.now c.args.n.now)
