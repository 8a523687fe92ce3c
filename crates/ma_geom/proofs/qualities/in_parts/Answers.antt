use Rattle.std.proofs.Common.{ℕ, ◌*◌, ◌/◌, ◌<◌, ◌^◌, Fits, w32, arith}
use Rattle.std.proofs.lemmas.Nat.{div_below}
use Rattle.ma_geom.proofs.qualities.in_parts.Goals as goal

quotient_fits : {n k : ℕ} → 0 < k → n < 2 ^ 32 * k → Fits w32 (n / k)
quotient_fits {n} {k} above below = record { fits = div_below n k (2 ^ 32) above below }

pub overflow_cast-result : goal.overflow_cast-result
overflow_cast-result c = quotient_fits (omega arith) (omega arith)
