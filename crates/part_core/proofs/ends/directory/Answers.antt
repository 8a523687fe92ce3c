use Rattle.std.proofs.Common.{sym, subst}
use Rattle.std.specs.Map.Iter.{deref_pair}
use Rattle.std.proofs.lemmas.Map.Iter.{rest_more}
use Rattle.part_rules.specs.Bodies.{posts_in}
use Rattle.part_core.proofs.Walks.{IsWalk, walk_at, walk_on}
use Rattle.part_core.proofs.ends.directory.Goals as goal

pub put_post-requires : goal.put_post-requires
put_post-requires c =
    let at = walk_at c.loop-sender.sender-iterator c.in-Some.sender.now c.in-Some.body.now c.next.new.self c.loop-sender.directory (posts_in c.args.posts.now)
    (rest_more deref_pair c.loop-sender.sender-iterator c.next.new.self c.next.result (c.in-Some.sender, c.in-Some.body) c.in-Some.is c.next.ensures.steps) c.loop-sender.invariant in
    record { sender = at.0; last = at.1 }

pub loop-sender-preserved : goal.loop-sender-preserved
loop-sender-preserved c =
    subst (λ d. IsWalk c.next.new.self d (posts_in c.args.posts.now)) (sym c.in_ok-put_post.ensures)
    (walk_on c.loop-sender.sender-iterator c.in-Some.sender.now c.in-Some.body.now c.next.new.self c.loop-sender.directory (posts_in c.args.posts.now)
    (rest_more deref_pair c.loop-sender.sender-iterator c.next.new.self c.next.result (c.in-Some.sender, c.in-Some.body) c.in-Some.is c.next.ensures.steps) c.loop-sender.invariant)
