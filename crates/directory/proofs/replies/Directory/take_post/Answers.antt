use Rattle.std.proofs.Common.{◌<◌, ap, ◌∙◌}
use Rattle.std.specs.FinMap.{put}
use Rattle.std.specs.Ordering.{nat_cmp}
use Rattle.directory.proofs.Bodies.{all-inserted, insert_is}
use Rattle.directory.proofs.replies.Directory.take_post.Goals as goal

pub invariant_of-self : goal.invariant_of-self
invariant_of-self c =
    (c.insert.ensures.ordered, all-inserted (λ k. k < 64) c.insert.result c.self.inside.posts.entries c.insert.new.self.entries c.args.sender c.in_ok-copy.copy c.insert.ensures.entries c.insert.ensures.err c.requires c.self.invariant.1)

pub returns-in-Ok-clause-ok : goal.returns-in-Ok-clause-ok
returns-in-Ok-clause-ok c =
    c.in-Ok.ensures.entries
    ∙ insert_is c.self.inside.posts.entries c.args.sender c.in_ok-copy.copy
    ∙ ap (λ p. put nat_cmp c.args.sender p c.self.inside.posts.entries) c.in_ok-copy.ensures
    ∙ ap (λ es. put nat_cmp c.args.sender c.args.post.now es) c.self.view_is
