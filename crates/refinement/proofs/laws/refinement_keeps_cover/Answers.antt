use Rattle.refinement.proofs.Covered.{refinement_keeps_cover}
use Rattle.refinement.proofs.laws.refinement_keeps_cover.Goals as goal

pub returns : goal.returns
returns c = refinement_keeps_cover
