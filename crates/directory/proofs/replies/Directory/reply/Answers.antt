use Rattle.std.proofs.Common.{◌≡◌, IfOk, None, Some, refl, subst}
use Rattle.letters.specs.declared.letter.Post.{Post}
use Rattle.part_phases.specs.Inboxes.{Inbox}
use Rattle.directory.specs.Posting.{reply_of}
use Rattle.directory.proofs.Bodies.{reply_found}
use Rattle.directory.proofs.replies.Directory.reply.Goals as goal

pub returns-in-Some : goal.returns-in-Some
returns-in-Some c =
    subst (λ (posts : Inbox Post). IfOk c.reply_on.result (λ reply. reply ≡ reply_of posts c.args.target)) c.self.view_is
    (reply_found c.reply_on.result c.args.target c.self.inside.posts.entries (Some c.in-Some.post.now) c.in-Some.post.now.places c.in-Some.ensures.value refl c.reply_on.ensures)

pub returns-in-None : goal.returns-in-None
returns-in-None c =
    subst (λ (posts : Inbox Post). IfOk c.reply_on-in-None-2.result (λ reply. reply ≡ reply_of posts c.args.target)) c.self.view_is
    (reply_found c.reply_on-in-None-2.result c.args.target c.self.inside.posts.entries None c.new.result c.in-None.ensures.value c.new.ensures c.reply_on-in-None-2.ensures)
