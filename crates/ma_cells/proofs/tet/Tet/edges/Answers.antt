use Rattle.ma_geom.proofs.PlaceOrder.{place_cmp_total}
use Rattle.ma_cells.proofs.Choices.{choices-ascend}
use Rattle.ma_cells.proofs.Corners.{corners_rise}
use Rattle.ma_cells.proofs.tet.Tet.edges.Goals as goal

pub returns-clause-rise : goal.returns-clause-rise
returns-clause-rise c =
    rw c.pairs.ensures (choices-ascend place_cmp_total 2 c.self.inside.corners (corners_rise c.self.inside.corners c.self.invariant))
