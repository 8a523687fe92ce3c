use Rattle.std.proofs.Common.{◌≡◌, true, List, None, drop, refl, sym, subst}
use Rattle.std.specs.List.Sorted.{IsStrictlySortedBy}
use Rattle.std.proofs.Math.ListN.{drop_of_length-le}
use Rattle.ma_geom.specs.Coordinates.{Coordinates, place_cmp}
use Rattle.letters.specs.Grammar.{are_behind}
use Rattle.letters.specs.Sharing.{SharedPlace, shared_before}
use Rattle.directory.specs.Posting.{posters, shared_of}
use Rattle.directory.proofs.Selected.{walked_all}
use Rattle.directory.proofs.Senders.{shared_behind}
use Rattle.directory.proofs.replies.shared_places.Goals as goal

pub from_vec-requires : goal.from_vec-requires
from_vec-requires c =
    let whole : c.loop-place.shared.items ≡ shared_of (λ x. posters x c.args.posts.now.entries) c.args.places.now
    = walked_all (shared_of (λ x. posters x c.args.posts.now.entries)) c.loop-place.shared.items (drop c.loop-place.place-index c.as_slice-place-items.result.now) c.args.places.now
    (drop_of_length-le c.as_slice-place-items.result.now c.loop-place-test.false) refl c.loop-place.invariant in
    subst (λ (xs : List SharedPlace). are_behind shared_before None xs ≡ true) (sym whole)
    (shared_behind (λ x. posters x c.args.posts.now.entries) c.args.places.now (subst (λ (ps : List Coordinates). IsStrictlySortedBy place_cmp ps) c.as_slice-place-items.ensures.items c.as_slice-place-items.ensures.rises))
