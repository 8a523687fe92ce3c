use Rattle.std.proofs.Common.{ap, ◌∙◌}
use Rattle.ma_cells.specs.Ascending.{ascending_of}
use Rattle.ma_cells.specs.Faces.{choices}
use Rattle.ma_cells.specs.Tetrahedron.{Tetrahedron}
use Rattle.legal_moves.specs.Around.{spot_cmp}
use Rattle.legal_moves.proofs.Around.{spot_exact}
use Rattle.legal_moves.proofs.Pushing.{all_pushed}
use Rattle.legal_moves.proofs.spots.edges_of.Goals as goal

pub returns : goal.returns
returns c =
    c.gather.ensures.is spot_exact
    ∙ ap (ascending_of spot_cmp) (all_pushed (λ (tet : Tetrahedron). choices 2 tet.corners) c.args.tets.now c.loop-tet.tet-index c.loop-tet.edges.items _ c.loop-tet-test.false c.loop-tet.invariant)
