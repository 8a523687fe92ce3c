use Rattle.std.proofs.Common.{◌≡◌, IfOk, rules, subst}
use Rattle.std.specs.List.{zip}
use Rattle.std.proofs.lemmas.Iterator.{YieldsList-from_zip, items_from_collect}
use Rattle.std.proofs.lemmas.Iterator.Adapters.{YieldsList-from_vec}
use Rattle.pass_letters.proofs.addressed.joined.Goals as goal

pub returns : goal.returns
returns c =
    let ops = c.args.ops.items in
    let labels = c.args.labels.items in
    subst (λ r. IfOk r (λ entries. entries.items ≡ zip ops labels)) c.in_ok-entries.was
    (items_from_collect c.collect.result c.collect.ensures.ran (YieldsList-from_zip (YieldsList-from_vec ops (search rules) (search rules)) (YieldsList-from_vec labels (search rules) (search rules))))
