use Rattle.mesh_laws.proofs.Regions.{regions_give_cover}
use Rattle.mesh_laws.proofs.laws.regions_give_cover.Goals as goal

pub returns : goal.returns
returns c = regions_give_cover
