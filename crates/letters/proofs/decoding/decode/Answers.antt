use Rattle.std.proofs.Common.{ap, subst, ◌∙◌, arith}
use Rattle.letters.specs.Letters.{Gives, read}
use Rattle.letters.proofs.LetterLaws.{is_found, read_again}
use Rattle.letters.proofs.decoding.decode.Goals as goal

pub returns-clause-found : goal.returns-clause-found
returns-clause-found c = is_found c.args.bytes.now c.whole_letter.result (λ i. omega (arith, c.type_inv.bytes i)) c.whole_letter.ensures

pub returns-clause-only : goal.returns-clause-only
returns-clause-only c = λ l fits e. subst (λ r. Gives (λ m. m) c.whole_letter.result r) (ap read e ∙ read_again l fits) c.whole_letter.ensures
