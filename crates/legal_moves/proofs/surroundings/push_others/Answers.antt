use Rattle.std.proofs.Common.{◌++◌, ap, ◌∙◌}
use Rattle.ma_geom.specs.Coordinates.{place_cmp}
use Rattle.ma_geom.proofs.PlaceOrder.{place_cmp-IsAntisymmetric, place_cmp_total}
use Rattle.ma_cells.specs.Ascending.{ascending_of}
use Rattle.ma_cells.specs.Stars.{besides}
use Rattle.ma_cells.specs.Tetrahedron.{Tetrahedron}
use Rattle.legal_moves.proofs.Joined.{all_joined, one_joined}
use Rattle.legal_moves.proofs.surroundings.push_others.Goals as goal

pub loop-tet-preserved : goal.loop-tet-preserved
loop-tet-preserved c =
    one_joined place_cmp_total place_cmp-IsAntisymmetric (λ (tet : Tetrahedron). besides c.args.at.now tet.corners) c.args.star.now c.loop-tet.tet-index c.tet-item.result c.loop-tet.places.items c.push_besides.new.places.items _ c.loop-tet-test.true c.tet-item.is
    (c.in_ok-push_besides.ensures ∙ ap (λ corners. ascending_of place_cmp (c.loop-tet.places.items ++ besides c.args.at.now corners)) c.corners.ensures.value) c.loop-tet.invariant

pub returns : goal.returns
returns c =
    all_joined place_cmp_total place_cmp-IsAntisymmetric (λ (tet : Tetrahedron). besides c.args.at.now tet.corners) c.args.star.now c.loop-tet.tet-index c.loop-tet.places.items _ c.loop-tet-test.false c.loop-tet.invariant
