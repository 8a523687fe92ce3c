use Rattle.std.proofs.Common.{ap, ◌∙◌, ◌++◌}
use Rattle.std.proofs.lemmas.Result.{on_ok_weaker}
use Rattle.letters.specs.Fields.{between, place, place_before}
use Rattle.letters.specs.Grammar.{counted, number}
use Rattle.letters.proofs.Joining.{three}
use Rattle.letters.proofs.entries.OperationEntry.put.Goals as goal

pub returns-clause-text : goal.returns-clause-text
returns-clause-text c =
    let o = c.args.self.now in
    let spot = (counted (between 1 3) place_before place).spelling in
    on_ok_weaker c.put_word.result
    (three c.args.out.now.items (spot o.at) (place.spelling o.apex) ((number 4).spelling o.worst) c.put_spot.new.out.items c.put_place.new.out.items c.put_word.new.out.items
    (c.in_ok-put_spot.ensures.text ∙ ap (λ at. c.args.out.now.items ++ spot at) c.at.ensures.value)
    (c.in_ok-put_place.ensures.text ∙ ap (λ p. c.put_spot.new.out.items ++ place.spelling p) c.apex.ensures.value)
    )
    (on_ok_weaker c.put_word.result (λ e. e ∙ ap (λ w. c.put_place.new.out.items ++ (number 4).spelling w) c.worst.ensures) c.put_word.ensures.text)
