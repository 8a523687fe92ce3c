use Rattle.std.proofs.Common.{◌≡◌, ◌≤◌, ◌∙◌, ℕ, List, [], length, refl, sym, subst}
use Rattle.std.specs.List.Sorted.{IsStrictlySortedBy}
use Rattle.std.specs.Map.Iter.{deref_pair}
use Rattle.std.specs.Ordering.{nat_cmp}
use Rattle.std.proofs.lemmas.Map.Iter.{rest_all}
use Rattle.ma_geom.specs.Coordinates.{place_cmp}
use Rattle.ma_cells.specs.Ascending.{has}
use Rattle.letters.specs.declared.letter.Post.{Post}
use Rattle.directory.specs.Posting.{posters}
use Rattle.directory.proofs.Selected.{walked_all}
use Rattle.directory.proofs.Senders.{keys_few, keys_rise}
use Rattle.directory.proofs.replies.posters.Goals as goal

pub from_vec-requires : goal.from_vec-requires
from_vec-requires c =
    let none : c.loop-sender.sender-iterator ≡ [] = rest_all deref_pair _ _ _ c.in-None.is c.next.ensures.steps in
    let whole : c.loop-sender.senders.items ≡ posters c.args.place c.args.posts.now.entries = walked_all (posters c.args.place) c.loop-sender.senders.items c.loop-sender.sender-iterator c.args.posts.now.entries none refl c.loop-sender.invariant in
    subst (λ (ks : List ℕ). IsStrictlySortedBy nat_cmp ks) (sym whole)
    (keys_rise (λ (entry : ℕ × Post). has place_cmp c.args.place entry.1.places) c.args.posts.now.entries c.into_iter-sender-iterator.ensures.into_iter_gives.5)

pub returns-clause-few : goal.returns-clause-few
returns-clause-few c =
    let none : c.loop-sender.sender-iterator ≡ [] = rest_all deref_pair _ _ _ c.in-None.is c.next.ensures.steps in
    let whole : c.loop-sender.senders.items ≡ posters c.args.place c.args.posts.now.entries = walked_all (posters c.args.place) c.loop-sender.senders.items c.loop-sender.sender-iterator c.args.posts.now.entries none refl c.loop-sender.invariant in
    subst (λ (ks : List ℕ). length ks ≤ 64) (sym (c.from_vec.ensures ∙ whole))
    (keys_few (λ (entry : ℕ × Post). has place_cmp c.args.place entry.1.places) 64 c.args.posts.now.entries c.into_iter-sender-iterator.ensures.into_iter_gives.5 c.requires)
