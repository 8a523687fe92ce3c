use Rattle.std.proofs.Common.{◌≡◌, true, subst, sym}
use Rattle.ma_geom.specs.Coordinates.{Coordinates}
use Rattle.ma_cells.specs.Grid.{is_on_grid}
use Rattle.world_run.proofs.TestMeshes.{origin_on_grid}
use Rattle.world_run.proofs.tests.at.Goals as goal

pub returns-in-None : goal.returns-in-None
returns-in-None c = subst (λ (place : Coordinates). is_on_grid 2 place ≡ true) (sym c.default.ensures) origin_on_grid
