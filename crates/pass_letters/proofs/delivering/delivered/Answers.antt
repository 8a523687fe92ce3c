use Rattle.std.proofs.Common.{◌≡◌, [], arith, sym, ap, ◌∙◌}
use Rattle.std.proofs.lemmas.List.{nil_from_length}
use Rattle.part_gather.specs.Gathering.{deliveries}
use Rattle.pass_letters.proofs.Sent.{nothing_ordered}
use Rattle.pass_letters.proofs.delivering.delivered.Goals as goal

pub returns-in-empty : goal.returns-in-empty
returns-in-empty c =
    let none : c.args.ordered.now ≡ [] = nil_from_length c.args.ordered.now (omega (arith, c.in-empty.len_below)) in
    c.nothing.ensures ∙ nothing_ordered c.args.store.now ∙ ap (deliveries c.args.store.now) (sym none)
