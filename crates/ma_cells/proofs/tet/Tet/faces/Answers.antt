use Rattle.ma_geom.proofs.PlaceOrder.{place_cmp_total}
use Rattle.ma_cells.proofs.Choices.{choices-ascend}
use Rattle.ma_cells.proofs.Corners.{corners_rise}
use Rattle.ma_cells.proofs.tet.Tet.faces.Goals as goal

pub returns-clause-rise : goal.returns-clause-rise
returns-clause-rise c =
    rw c.triples.ensures (choices-ascend place_cmp_total 3 c.self.inside.corners (corners_rise c.self.inside.corners c.self.invariant))
