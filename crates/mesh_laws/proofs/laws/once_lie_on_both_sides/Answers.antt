use Rattle.mesh_laws.proofs.BothSides.{once_lie_on_both_sides}
use Rattle.mesh_laws.proofs.laws.once_lie_on_both_sides.Goals as goal

pub returns : goal.returns
returns c = once_lie_on_both_sides
