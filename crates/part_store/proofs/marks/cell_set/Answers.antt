use Rattle.part_store.proofs.Gathered.{cells_gathered}
use Rattle.part_store.proofs.marks.cell_set.Goals as goal

pub returns : goal.returns
returns c = cells_gathered c.args.cells.items c.gather.result c.gather.ensures.is
