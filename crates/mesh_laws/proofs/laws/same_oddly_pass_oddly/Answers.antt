use Rattle.mesh_laws.proofs.Oddly.{same_oddly_pass_oddly}
use Rattle.mesh_laws.proofs.laws.same_oddly_pass_oddly.Goals as goal

pub returns : goal.returns
returns c = same_oddly_pass_oddly
