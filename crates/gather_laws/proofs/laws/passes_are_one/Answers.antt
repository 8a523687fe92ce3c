use Rattle.gather_laws.proofs.After.{unlabelled}
use Rattle.gather_laws.proofs.laws.passes_are_one.Goals as goal

pub returns : goal.returns
returns c = unlabelled
