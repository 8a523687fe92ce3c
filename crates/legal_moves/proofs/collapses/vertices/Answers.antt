use Rattle.std.proofs.Common.{ap, ◌∙◌}
use Rattle.ma_geom.specs.Coordinates.{place_cmp}
use Rattle.ma_geom.proofs.PlaceOrder.{place_cmp-IsAntisymmetric}
use Rattle.ma_cells.specs.Ascending.{ascending_of}
use Rattle.ma_cells.specs.Tetrahedron.{Tetrahedron}
use Rattle.legal_moves.proofs.Pushing.{all_pushed}
use Rattle.legal_moves.proofs.collapses.vertices.Goals as goal

pub returns : goal.returns
returns c =
    c.gather.ensures.is place_cmp-IsAntisymmetric
    ∙ ap (ascending_of place_cmp) (all_pushed (λ (tet : Tetrahedron). tet.corners) c.args.tets.now c.loop-tet.tet-index c.loop-tet.places.items _ c.loop-tet-test.false c.loop-tet.invariant)
