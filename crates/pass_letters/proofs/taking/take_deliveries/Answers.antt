use Rattle.std.proofs.Common.{◌≡◌, OnOk, rules, subst}
use Rattle.part_gather.specs.Gathering.{applied_to}
use Rattle.part_gather.specs.Ordered.{batches_of_others, given_away, ordered_by}
use Rattle.pass_letters.proofs.taking.take_deliveries.Goals as goal

pub returns-clause-ok : goal.returns-clause-ok
returns-clause-ok c =
    let store = c.args.store.now in
    let orders = c.args.orders.now in
    let won : c.as_slice.result.now ≡ ordered_by orders store.part = search rules in
    let got : c.as_slice-2.result.now ≡ batches_of_others c.args.batches.items store.part = search rules in
    let given : c.as_slice-3.result.now ≡ given_away store orders = search rules in
    subst (λ new. OnOk c.apply.result (c.apply.new.store ≡ new)) (λ i. applied_to store (won i) (got i) (given i)) c.apply.ensures.ok
