use Rattle.cavity_rank.proofs.Ranked.{rank_total}
use Rattle.letters.proofs.Orders.{from_sorted}
use Rattle.letters.proofs.encoding.put_operations.Goals as goal

pub put_list-requires : goal.put_list-requires
put_list-requires c = from_sorted rank_total c.as_slice.result.now c.as_slice.ensures.rises
