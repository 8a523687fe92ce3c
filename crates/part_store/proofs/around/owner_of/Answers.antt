use Rattle.ma_cells.specs.Cells.{corners_of}
use Rattle.ma_cells.specs.Faces.{holds_all}
use Rattle.part_store.proofs.Owners.{owner_is}
use Rattle.part_store.proofs.around.owner_of.Goals as goal

pub returns : goal.returns
returns c =
    owner_is c.args.part (λ tet. holds_all tet.corners (corners_of c.args.cell.now)) c.args.own.now c.args.others.now c.is_on.result c.label_if.result c.least_label.result c.lesser.result
    c.is_on.ensures c.label_if.ensures c.least_label.ensures c.lesser.ensures
