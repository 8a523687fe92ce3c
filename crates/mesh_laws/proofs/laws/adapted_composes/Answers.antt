use Rattle.mesh_laws.proofs.Adapted.{adapted_composes}
use Rattle.mesh_laws.proofs.laws.adapted_composes.Goals as goal

pub returns : goal.returns
returns c = adapted_composes
