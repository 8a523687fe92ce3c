use Rattle.collapse_laws.proofs.Collapses.{legal_collapse_keeps_mesh}
use Rattle.collapse_laws.proofs.laws.legal_collapse_keeps_mesh.Goals as goal

pub returns : goal.returns
returns c = legal_collapse_keeps_mesh
