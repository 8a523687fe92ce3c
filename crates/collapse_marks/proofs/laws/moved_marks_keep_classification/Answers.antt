use Rattle.collapse_marks.proofs.At.{moved_marks_keep_classification}
use Rattle.collapse_marks.proofs.laws.moved_marks_keep_classification.Goals as goal

pub returns : goal.returns
returns c = moved_marks_keep_classification
