use Rattle.std.proofs.Common.{◌≡◌, rules, map, sym, ap, subst, ◌∙◌}
use Rattle.std.specs.List.{zip}
use Rattle.std.specs.List.Sorted.{IsStrictlySortedBy}
use Rattle.cavity_rank.specs.Operations.{rank}
use Rattle.part_store.specs.Agreement.{all_in}
use Rattle.part_store.specs.Stores.{view_in}
use Rattle.part_vote.specs.Leading.{cavity_labels}
use Rattle.pass_letters.specs.Sending.{addressed_to}
use Rattle.pass_letters.proofs.Sent.{same_operations, to_those_in_cavities}
use Rattle.pass_letters.proofs.addressed.by_cavities.Goals as goal

pub invariant_of-result : goal.invariant_of-result
invariant_of-result c =
    let labels = cavity_labels (all_in (view_in c.args.store.now)) in
    let entries : c.in_ok-entries.entries.items ≡ zip c.args.ops (map labels c.args.ops) = search rules in
    subst (λ ops. IsStrictlySortedBy rank ops) (sym (ap (map (λ entry. entry.0)) entries ∙ same_operations labels c.args.ops)) (search rules)

pub returns : goal.returns
returns c part =
    let tets = all_in (view_in c.args.store.now) in
    let entries : c.in_ok-entries.entries.items ≡ zip c.args.ops (map (cavity_labels tets) c.args.ops) = search rules in
    ap (λ es. addressed_to (record { entries = es }) part) entries ∙ to_those_in_cavities tets part c.args.ops
