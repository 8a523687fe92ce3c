use Rattle.refined_views.proofs.Beginnings.{refined_marks_are_carried}
use Rattle.refined_views.proofs.laws.refined_marks_are_carried.Goals as goal

pub returns : goal.returns
returns c = refined_marks_are_carried
