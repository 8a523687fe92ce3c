use Rattle.std.proofs.Common.{◌≡◌, rules, sym, subst}
use Rattle.std.specs.List.Sorted.{IsStrictlySortedBy}
use Rattle.std.specs.Ordering.{nat_cmp}
use Rattle.ma_cells.specs.Ascending.{has}
use Rattle.cavity_rank.specs.Operations.{rank}
use Rattle.pass_letters.specs.Sending.{addressed_to}
use Rattle.pass_letters.proofs.Sent.{kept_rise}
use Rattle.pass_letters.proofs.addressed.Addressed.to.Goals as goal

pub from_vec-requires : goal.from_vec-requires
from_vec-requires c =
    let entries = c.self.inside.entries.items in
    let found : c.in_ok-ops.ops.items ≡ addressed_to (record { entries = entries }) c.args.part = search rules in
    subst (λ ops. IsStrictlySortedBy rank ops) (sym found) (kept_rise rank (λ entry. entry.0) (λ entry. has nat_cmp c.args.part entry.1) entries c.self.invariant)
