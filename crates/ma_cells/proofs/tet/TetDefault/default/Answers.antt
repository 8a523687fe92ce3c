use Rattle.std.proofs.Common.{refl}
use Rattle.ma_geom.specs.Volume.{vol6}
use Rattle.ma_cells.proofs.tet.TetDefault.default.Goals as goal

pub invariant_of-result : goal.invariant_of-result
unfolding vol6
invariant_of-result c = rw (c.small_place.ensures, c.small_place-2.ensures, c.small_place-3.ensures, c.small_place-4.ensures) refl
