use Rattle.part_store.proofs.Gathered.{marks_gathered}
use Rattle.part_store.proofs.marks.mark_set.Goals as goal

pub returns : goal.returns
returns c = marks_gathered c.args.marks.items c.gather.result c.gather.ensures.is
