use Rattle.part_gather.proofs.Found.{marks_gathered}
use Rattle.part_gather.proofs.marks.mark_set.Goals as goal

pub returns : goal.returns
returns c = marks_gathered c.args.marks.items c.gather.result c.gather.ensures.is
