use Rattle.std.proofs.Common.{◌++◌, ap, ◌∙◌}
use Rattle.std.specs.List.{flat_map}
use Rattle.ma_geom.specs.Coordinates.{place_cmp}
use Rattle.ma_geom.proofs.PlaceOrder.{place_cmp-IsAntisymmetric}
use Rattle.ma_cells.specs.Ascending.{ascending_of}
use Rattle.ma_cells.specs.Stars.{besides}
use Rattle.ma_cells.specs.Tetrahedron.{Tetrahedron}
use Rattle.legal_moves.proofs.surroundings.find_others.Goals as goal

pub returns : goal.returns
returns c =
    c.make_set.ensures place_cmp-IsAntisymmetric
    ∙ c.in_ok-push_others.ensures ∙ ap (λ places. ascending_of place_cmp (places ++ flat_map (λ (tet : Tetrahedron). besides c.args.at.now tet.corners) c.args.star.now)) c.clear.ensures.items
