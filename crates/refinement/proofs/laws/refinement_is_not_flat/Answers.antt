use Rattle.refinement.proofs.NotFlat.{refinement_is_not_flat}
use Rattle.refinement.proofs.laws.refinement_is_not_flat.Goals as goal

pub returns : goal.returns
returns c = refinement_is_not_flat
