-- No promise: what a step of reading digits answers.
use Rattle.std.specs.Prelude.{ℕ, ◌^◌, nat_lt, if◌then◌else◌, Option, Some, None}

-- the number, where 64 bits hold it
abbrev pub within_64_bits : ℕ → Option ℕ
within_64_bits value = if nat_lt value (2 ^ 64) then Some value else None
