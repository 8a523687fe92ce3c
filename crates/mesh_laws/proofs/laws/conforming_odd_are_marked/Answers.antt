use Rattle.mesh_laws.proofs.Sounds.{conforming_odd_are_marked}
use Rattle.mesh_laws.proofs.laws.conforming_odd_are_marked.Goals as goal

pub returns : goal.returns
returns c = conforming_odd_are_marked
