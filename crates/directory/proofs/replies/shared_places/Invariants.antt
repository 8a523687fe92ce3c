use Rattle.std.proofs.Common.{◌≡◌, ◌++◌, drop}
use Rattle.directory.specs.Posting.{posters, shared_of}
use Rattle.directory.proofs.replies.shared_places.Given as goal

-- those so far, and those of the places that are left
abbrev pub invariant-loop-place : goal.invariant-loop-place
invariant-loop-place l =
    l.shared.items ++ shared_of (λ x. posters x l.posts.entries) (drop l.place-index l.place-items) ≡ shared_of (λ x. posters x l.posts.entries) l.places
