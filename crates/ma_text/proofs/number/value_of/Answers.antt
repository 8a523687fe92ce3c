use Rattle.std.proofs.Common.{◌∙◌}
use Rattle.ma_text.proofs.Values.{stops}
use Rattle.ma_text.proofs.number.value_of.Goals as goal

pub returns-in_err-value : goal.returns-in_err-value
returns-in_err-value c =
    c.from_residual.ensures ∙ stops c.loop-digit.value c.loop-digit.digit-index c.args.digits.now _ c.loop-digit-test.true c.in_err-value.ensures c.loop-digit.invariant.0
