use Rattle.std.proofs.Common.{◌≤◌, length, subst}
use Rattle.part_core.proofs.Bodies.{few}
use Rattle.part_core.proofs.inbox.Inbox.iter.Goals as goal

pub returns-clause-few : goal.returns-clause-few
returns-clause-few c = subst (λ es. length es ≤ 64) c.self.view_is (few 64 c.self.inside.bodies.entries c.iter.ensures.ordered c.self.invariant.1)
