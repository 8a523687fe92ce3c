use Rattle.part_gather.proofs.Changing.{swap_again}
use Rattle.part_gather.proofs.filling.by_swap.Goals as goal

pub returns : goal.returns
returns c = swap_again c.args.v c.args.star.now c.in_ok-tets.tets.items c.tet_set.result c.requires c.in_ok-tets.ensures c.tet_set.ensures
