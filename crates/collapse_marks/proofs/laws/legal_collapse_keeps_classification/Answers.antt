use Rattle.collapse_marks.proofs.Legal.{legal_collapse_keeps_classification}
use Rattle.collapse_marks.proofs.laws.legal_collapse_keeps_classification.Goals as goal

pub returns : goal.returns
returns c = legal_collapse_keeps_classification
