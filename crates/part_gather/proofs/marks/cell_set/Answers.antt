use Rattle.part_gather.proofs.Found.{cells_gathered}
use Rattle.part_gather.proofs.marks.cell_set.Goals as goal

pub returns : goal.returns
returns c = cells_gathered c.args.cells.items c.gather.result c.gather.ensures.is
