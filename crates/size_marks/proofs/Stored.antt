-- Numbers that are handed on as stored words.
use Rattle.std.proofs.Common.{◌≡◌, ◌^◌, ◌≤◌, to_z, of_z, w32, arith}
use Rattle.std.specs.Prelude.{ℤ, FitsSigned, unsigned_abs}
use Rattle.std.proofs.lemmas.Int.{ints, to_z-of_z}

pub stored : (x : ℤ) → unsigned_abs x ≤ 2 ^ 30 → to_z w32 (of_z w32 x) ≡ x
stored x near =
    let fits : FitsSigned w32 x = omega (arith, ints) in
    to_z-of_z w32 x fits
