use Rattle.std.proofs.Common.{false, ap, sym, ◌∙◌}
use Rattle.ma_text.specs.Numbers.{natural_answer, signed}
use Rattle.meshadapt.proofs.Numbers.{number_in_is, taken_in}
use Rattle.meshadapt.proofs.words.number_in.Goals as goal

pub returns-in-Ok-clause-value : goal.returns-in-Ok-clause-value
returns-in-Ok-clause-value c =
    c.in_range.ensures.value
    ∙ ap (taken_in c.args.low c.args.high) (sym c.in-Ok.is ∙ c.magnitude.ensures ∙ ap (λ word. natural_answer (signed false word)) c.as_bytes.ensures.value)
    ∙ number_in_is c.args.low c.args.high c.args.word.now c.requires

pub returns-in-Err-clause-value : goal.returns-in-Err-clause-value
returns-in-Err-clause-value c =
    ap (taken_in c.args.low c.args.high) (sym c.in-Err.is ∙ c.magnitude.ensures ∙ ap (λ word. natural_answer (signed false word)) c.as_bytes.ensures.value)
    ∙ number_in_is c.args.low c.args.high c.args.word.now c.requires
