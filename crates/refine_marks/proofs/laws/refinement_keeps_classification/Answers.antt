use Rattle.refine_marks.proofs.Classified.{refinement_keeps_classification}
use Rattle.refine_marks.proofs.laws.refinement_keeps_classification.Goals as goal

pub returns : goal.returns
returns c = refinement_keeps_classification
