use Rattle.std.proofs.Common.{◌≡◌, rules, sym, ap, subst, filter, ◌∙◌}
use Rattle.std.specs.List.Sorted.{IsStrictlySortedBy}
use Rattle.std.proofs.lemmas.List.Kept.{IsStrictlySortedBy-filter}
use Rattle.ma_cells.specs.Ascending.{ascending_of, has}
use Rattle.cavity_rank.specs.Operations.{Operation, rank}
use Rattle.part_gather.specs.Ordered.{ordered_by}
use Rattle.pass_letters.proofs.Sent.{in_own_set}
use Rattle.pass_letters.proofs.voting.Votes.to.Goals as goal

pub from_vec-requires : goal.from_vec-requires
from_vec-requires c =
    subst (λ ops. IsStrictlySortedBy rank ops) (sym c.in_ok-voted.ensures)
    (IsStrictlySortedBy-filter rank (λ (op : Operation). has rank op c.op_set-listed.result) c.as_slice-2.result.now c.as_slice-2.ensures.rises)

pub returns : goal.returns
returns c =
    let votes = c.args.self.now in
    let part = c.args.part in
    let set : c.op_set-listed.result ≡ ascending_of rank (ordered_by votes.proposed part) = search rules in
    let voted : c.in_ok-voted.voted.items ≡ filter (λ (op : Operation). has rank op c.op_set-listed.result) votes.ballots = search rules in
    c.from_vec.ensures ∙ voted ∙ (λ i. filter (λ (op : Operation). (ap (has rank op) set ∙ in_own_set votes.proposed part op) i) votes.ballots)
