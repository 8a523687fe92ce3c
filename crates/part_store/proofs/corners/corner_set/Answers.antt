use Rattle.std.proofs.Common.{◌++◌, ap, drop_of_length-le, sym, ◌∙◌}
use Rattle.std.specs.List.{flat_map}
use Rattle.std.proofs.lemmas.List.{append-nil}
use Rattle.ma_geom.specs.Coordinates.{place_cmp}
use Rattle.ma_geom.proofs.PlaceOrder.{place_cmp-IsAntisymmetric}
use Rattle.ma_cells.specs.Ascending.{ascending_of}
use Rattle.ma_cells.specs.Tetrahedron.{Tetrahedron}
use Rattle.part_store.proofs.corners.corner_set.Goals as goal

pub returns : goal.returns
returns c =
    c.gather.ensures.is place_cmp-IsAntisymmetric
    ∙ ap (ascending_of place_cmp)
    (sym (append-nil c.loop-tet.places.items)
    ∙ ap (λ (tets : _). c.loop-tet.places.items ++ flat_map (λ (tet : Tetrahedron). tet.corners) tets) (sym (drop_of_length-le c.args.tets.now c.loop-tet-test.false))
    ∙ c.loop-tet.invariant)
