use Rattle.std.proofs.Common.{false, ap, get_or, ◌∙◌, Ok, Err}
use Rattle.ma_cells.proofs.CellOrders.{cell_cmp-IsAntisymmetric, cell_cmp_total}
use Rattle.mesh_check.proofs.FoundCells.{cells_searched, flag_is, no_flag}
use Rattle.mesh_check.proofs.cells.is_found.Goals as goal

pub returns-in-Ok : goal.returns-in-Ok
returns-in-Ok c test flags =
    ap (λ bs. get_or bs c.in-Ok.at false) flags
    ∙ flag_is cell_cmp_total cell_cmp-IsAntisymmetric test c.args.cell.now c.args.wanted.now c.in-Ok.at false c.requires.rises c.in-Ok.ensures.bound
    (cells_searched c.args.cell.now c.args.wanted.now (Ok c.in-Ok.at) c.in-Ok.ensures.position)

pub returns-in-Err : goal.returns-in-Err
returns-in-Err c test flags =
    no_flag cell_cmp_total cell_cmp-IsAntisymmetric test c.args.cell.now c.args.wanted.now c.in-Err.field-0 c.requires.rises c.in-Err.ensures.bound
    (cells_searched c.args.cell.now c.args.wanted.now (Err c.in-Err.field-0) c.in-Err.ensures.position)
