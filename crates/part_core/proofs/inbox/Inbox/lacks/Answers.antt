use Rattle.std.proofs.Common.{not, is_some, ap, ◌∙◌}
use Rattle.std.specs.Ordering.{nat_cmp}
use Rattle.std.specs.FinMap.{find}
use Rattle.part_core.proofs.Bodies.{lookup_is}
use Rattle.part_core.proofs.inbox.Inbox.lacks.Goals as goal

pub returns : goal.returns
returns c = ap not (c.contains_key.ensures ∙ ap is_some (lookup_is c.args.sender c.self.inside.bodies.entries) ∙ ap (λ es. is_some (find nat_cmp c.args.sender es)) c.self.view_is)
