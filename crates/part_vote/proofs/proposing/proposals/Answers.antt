use Rattle.std.proofs.Common.{sym, subst}
use Rattle.std.specs.List.Sorted.{IsStrictlySortedBy}
use Rattle.std.proofs.lemmas.List.Kept.{IsStrictlySortedBy-filter}
use Rattle.cavity_rank.specs.Operations.{rank}
use Rattle.part_vote.specs.Leading.{leads}
use Rattle.part_vote.proofs.proposing.proposals.Goals as goal

pub from_vec-requires : goal.from_vec-requires
from_vec-requires c =
    subst (λ ops. IsStrictlySortedBy rank ops) (sym c.in_ok-led.ensures)
    (IsStrictlySortedBy-filter rank (leads c.in_ok-cavities.cavities c.in_ok-view.view.part) c.as_slice.result.now c.as_slice.ensures.rises)
