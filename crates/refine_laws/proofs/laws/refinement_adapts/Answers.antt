use Rattle.refine_laws.proofs.Sound.{refinement_adapts}
use Rattle.refine_laws.proofs.laws.refinement_adapts.Goals as goal

pub returns : goal.returns
returns c = refinement_adapts
