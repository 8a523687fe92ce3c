use Rattle.std.proofs.Common.{◌++◌, ap, ◌∙◌}
use Rattle.ma_geom.specs.Coordinates.{place_cmp}
use Rattle.ma_geom.proofs.PlaceOrder.{place_cmp-IsAntisymmetric, place_cmp_total}
use Rattle.ma_cells.specs.Ascending.{ascending_of}
use Rattle.legal_moves.proofs.Joined.{all_joined, besides_each, one_joined, unless_at}
use Rattle.legal_moves.proofs.surroundings.push_besides.Goals as goal

pub loop-place-preserved : goal.loop-place-preserved
loop-place-preserved c =
    one_joined place_cmp_total place_cmp-IsAntisymmetric (unless_at c.args.at.now) c.args.corners.now c.loop-place.place-index c.place-item.result c.loop-place.places.items c.push_unless.new.places.items _ c.loop-place-test.true c.place-item.is c.in_ok-push_unless.ensures c.loop-place.invariant

pub returns : goal.returns
returns c =
    all_joined place_cmp_total place_cmp-IsAntisymmetric (unless_at c.args.at.now) c.args.corners.now c.loop-place.place-index c.loop-place.places.items _ c.loop-place-test.false c.loop-place.invariant
    ∙ ap (λ l. ascending_of place_cmp (c.args.places.now.items ++ l)) (besides_each c.args.at.now c.args.corners.now)
