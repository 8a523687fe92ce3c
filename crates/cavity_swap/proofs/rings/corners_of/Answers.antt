use Rattle.cavity_swap.proofs.Rounds.{no_ring_of_others}
use Rattle.cavity_swap.proofs.rings.corners_of.Goals as goal

pub returns-else-push_edges : goal.returns-else-push_edges
returns-else-push_edges c = no_ring_of_others _ (c.push_edges.ensures.not_all c.if-push_edges.false)
