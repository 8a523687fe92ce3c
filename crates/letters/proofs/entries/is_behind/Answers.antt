use Rattle.std.proofs.Common.{ap, sym, Some, ◌∙◌}
use Rattle.letters.specs.Fields.{place_before}
use Rattle.letters.specs.Grammar.{comes_behind}
use Rattle.letters.proofs.Looping.{last_is}
use Rattle.letters.proofs.entries.is_behind.Goals as goal

pub returns-in-len1-up : goal.returns-in-len1-up
returns-in-len1-up c =
    c.comes_before.ensures
    ∙ ap (λ o. comes_behind place_before o c.args.p) (ap Some c.last-item.is ∙ sym (last_is c.args.places.now c.last-item.result c.in-len1-up.len_at_least))
