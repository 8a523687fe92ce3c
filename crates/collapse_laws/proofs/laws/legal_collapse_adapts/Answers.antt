use Rattle.collapse_laws.proofs.Adapts.{legal_collapse_adapts}
use Rattle.collapse_laws.proofs.laws.legal_collapse_adapts.Goals as goal

pub returns : goal.returns
returns c = legal_collapse_adapts
