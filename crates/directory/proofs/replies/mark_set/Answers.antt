use Rattle.directory.proofs.Marked.{marks_gathered}
use Rattle.directory.proofs.replies.mark_set.Goals as goal

pub returns : goal.returns
returns c = marks_gathered c.args.marks.items c.gather.result c.gather.ensures.is
