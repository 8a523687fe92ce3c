use Rattle.std.proofs.Common.{◌∙◌, ap}
use Rattle.ma_cells.specs.Ascending.{ascending_of}
use Rattle.ma_cells.specs.Cells.{cell_cmp}
use Rattle.mesh_check.proofs.FoundCells.{cells_gathered}
use Rattle.mesh_check.proofs.cells.marked_cells.Goals as goal

pub returns-clause-is : goal.returns-clause-is
returns-clause-is c =
    c.into_vec.ensures.items ∙ cells_gathered c.in_ok-cells.cells.items c.gather.result c.gather.ensures.is ∙ ap (ascending_of cell_cmp) c.in_ok-cells.ensures
