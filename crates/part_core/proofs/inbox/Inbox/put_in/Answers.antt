use Rattle.std.proofs.Common.{◌<◌, sym, ap, subst, ◌∙◌}
use Rattle.std.specs.List.{AllByRecursion}
use Rattle.part_phases.specs.Inboxes.{put_in}
use Rattle.part_core.proofs.Bodies.{below-put, insert_is}
use Rattle.part_core.proofs.inbox.Inbox.put_in.Goals as goal

pub invariant_of-self-2 : goal.invariant_of-self-2
invariant_of-self-2 c = (
  c.in_ok-insert.ensures.ordered,
  subst (λ es. AllByRecursion (λ entry. entry.0 < 64) es) (sym (c.in_ok-insert.ensures.entries ∙ insert_is c.self.inside.bodies.entries c.args.sender c.args.body))
      (below-put 64 c.args.sender c.args.body c.self.inside.bodies.entries c.requires c.self.invariant.1),
)

pub returns : goal.returns
returns c =
    c.in_ok-insert.ensures.entries ∙ insert_is c.self.inside.bodies.entries c.args.sender c.args.body ∙ ap (λ es. put_in c.args.sender c.args.body es) c.self.view_is
