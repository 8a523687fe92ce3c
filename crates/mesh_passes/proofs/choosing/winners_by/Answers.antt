use Rattle.std.proofs.Common.{sym, subst}
use Rattle.std.specs.List.Sorted.{IsStrictlySortedBy}
use Rattle.std.proofs.lemmas.List.Kept.{IsStrictlySortedBy-filter}
use Rattle.cavity_rank.specs.Operations.{rank}
use Rattle.pass_rules.specs.Choosing.{wins}
use Rattle.mesh_passes.proofs.choosing.winners_by.Goals as goal

pub from_vec-requires : goal.from_vec-requires
from_vec-requires c =
    subst (λ ops. IsStrictlySortedBy rank ops) (sym c.in_ok-won.ensures) (IsStrictlySortedBy-filter rank (wins c.as_slice.result.now c.args.tets.now) c.as_slice.result.now c.as_slice.ensures.rises)
