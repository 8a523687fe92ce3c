use Rattle.std.proofs.Common.{◌∙◌, ap}
use Rattle.std.specs.FinMap.{nat_cmp-IsAntisymmetric}
use Rattle.std.specs.List.{flat_map}
use Rattle.std.specs.Ordering.{nat_cmp}
use Rattle.std.proofs.lemmas.List.{take_all}
use Rattle.ma_cells.specs.Ascending.{ascending_of}
use Rattle.mesh_check.proofs.places.corner_positions.Goals as goal

pub returns : goal.returns
returns c =
    c.gather.ensures.is nat_cmp-IsAntisymmetric
    ∙ ap (ascending_of nat_cmp) (c.loop-tet.invariant ∙ ap (flat_map (λ tet. tet.at)) (take_all c.loop-tet.tet-index c.args.tets.now c.loop-tet-test.false))
