use Rattle.std.proofs.Common.{◌++◌, ap, ◌∙◌}
use Rattle.ma_cells.specs.Ascending.{ascending_of}
use Rattle.ma_cells.specs.Tetrahedron.{tet_cmp}
use Rattle.ma_cells.proofs.CellOrders.{tet_cmp-IsAntisymmetric}
use Rattle.cavity_swap.proofs.filling.set_of.Goals as goal

pub returns : goal.returns
returns c =
    c.gather.ensures.is tet_cmp-IsAntisymmetric ∙ ap (ascending_of tet_cmp) (c.in_ok-extend_from_slice.ensures.items ∙ ap (λ items. items ++ c.args.tets.now) c.in_ok-items.ensures.items)
