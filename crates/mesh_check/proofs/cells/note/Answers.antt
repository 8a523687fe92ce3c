use Rattle.std.proofs.Common.{true, ap, set, ◌∙◌, Ok, Err}
use Rattle.ma_cells.proofs.CellOrders.{cell_cmp-IsAntisymmetric, cell_cmp_total}
use Rattle.mesh_check.proofs.FoundCells.{cells_searched, noted, not_noted}
use Rattle.mesh_check.proofs.cells.note.Goals as goal

pub returns-in-Ok : goal.returns-in-Ok
returns-in-Ok c test flags =
    ap (λ bs. set bs c.in-Ok.at true) flags
    ∙ noted cell_cmp_total cell_cmp-IsAntisymmetric test c.args.cell.now c.args.wanted.now c.in-Ok.at c.requires.rises c.in-Ok.ensures.bound
    (cells_searched c.args.cell.now c.args.wanted.now (Ok c.in-Ok.at) c.in-Ok.ensures.position)

pub returns-in_default : goal.returns-in_default
returns-in_default c test flags =
    flags
    ∙ not_noted cell_cmp_total cell_cmp-IsAntisymmetric test c.args.cell.now c.args.wanted.now c.in_default.field-0 c.requires.rises c.in_default.ensures.bound
    (cells_searched c.args.cell.now c.args.wanted.now (Err c.in_default.field-0) c.in_default.ensures.position)
