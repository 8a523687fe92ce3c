use Rattle.part_core.proofs.Walks.{shown_all}
use Rattle.part_core.proofs.ends.shown.Goals as goal

pub returns-clause-others : goal.returns-clause-others
returns-clause-others c = shown_all c.args.me c.loop-sender.sender-iterator c.args.batches c.loop-sender.got.items c.in-None.ensures.steps.0 c.loop-sender.invariant
