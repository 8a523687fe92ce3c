use Rattle.std.proofs.Common.{◌≡◌, ◌^◌, ◌<◌, drop}
use Rattle.ma_text.specs.Numbers.{value_of}
use Rattle.ma_text.specs.steps.Digits.{within_64_bits}
use Rattle.ma_text.proofs.Values.{read_from}
use Rattle.ma_text.proofs.number.value_of.Given as goal

abbrev pub invariant-loop-digit : goal.invariant-loop-digit
invariant-loop-digit l =
    (read_from l.value (drop l.digit-index l.digits) ≡ within_64_bits (value_of l.digits)) × (l.value < 2 ^ 64)
