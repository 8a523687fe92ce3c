use Rattle.std.proofs.Common.{◌≡◌, sym, subst, ◌∙◌, false}
use Rattle.cavity_swap.specs.Rings.{is_ring}
use Rattle.cavity_swap.proofs.Rounds.{no_other}
use Rattle.cavity_swap.proofs.walks.corners_around.Goals as goal

pub returns-else-is_ring : goal.returns-else-is_ring
returns-else-is_ring c = no_other c.args.edges.now (subst (λ r. is_ring c.args.edges.now r ≡ false) (c.as_slice.ensures.value ∙ c.walked-ring.ensures) (sym c.is_ring.ensures ∙ c.if-is_ring.false))
