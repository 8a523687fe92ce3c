use Rattle.std.proofs.Common.{◌≡◌, ◌++◌}
use Rattle.directory.specs.Posting.{posters}
use Rattle.directory.proofs.replies.posters.Given as goal

-- those so far, and those of the posts that are left
abbrev pub invariant-loop-sender : goal.invariant-loop-sender
invariant-loop-sender l = l.senders.items ++ posters l.place l.sender-iterator ≡ posters l.place l.posts.entries
