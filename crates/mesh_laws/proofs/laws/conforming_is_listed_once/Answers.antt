use Rattle.mesh_laws.proofs.Sounds.{conforming_is_listed_once}
use Rattle.mesh_laws.proofs.laws.conforming_is_listed_once.Goals as goal

pub returns : goal.returns
returns c = conforming_is_listed_once
