use Rattle.std.proofs.Common.{◌==◌}
use Rattle.directory.specs.Homes.{home_of}
use Rattle.directory.proofs.Selected.{kept_rises}
use Rattle.directory.proofs.posts.places_for.Goals as goal

pub from_vec-requires : goal.from_vec-requires
from_vec-requires c =
    kept_rises _ (λ x. home_of c.args.j c.args.parts x == c.args.target) c.loop-place.kept.items c.as_slice-place-items.result.now c.args.places.now c.loop-place.place-index
    c.as_slice-place-items.ensures.rises c.as_slice-place-items.ensures.items c.loop-place-test.false c.loop-place.invariant
