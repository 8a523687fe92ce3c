use Rattle.std.proofs.Common.{sym, subst}
use Rattle.std.specs.List.{list_any}
use Rattle.std.specs.List.Sorted.{IsStrictlySortedBy}
use Rattle.std.proofs.lemmas.List.Kept.{IsStrictlySortedBy-filter}
use Rattle.cavity_rank.specs.Operations.{Operation, rank}
use Rattle.pass_rules.specs.Choosing.{is_in}
use Rattle.part_vote.proofs.balloting.ballots.Goals as goal

pub from_vec-requires : goal.from_vec-requires
from_vec-requires c =
    subst (λ ops. IsStrictlySortedBy rank ops) (sym c.in_ok-held.ensures)
    (IsStrictlySortedBy-filter rank (λ (op : Operation). list_any (is_in op) c.as_slice-2.result.now) c.as_slice-3.result.now c.as_slice-3.ensures.rises)
