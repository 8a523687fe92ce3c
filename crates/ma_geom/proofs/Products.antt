-- How far from zero a product is, and that it then fits its type.
use Rattle.std.proofs.Common.{◌≡◌, ℕ, ◌*◌, ◌^◌, ◌≤◌, w64, arith}
use Rattle.std.specs.Prelude.{ℤ, ◌*ℤ◌, FitsSigned, unsigned_abs}
use mir.Val.{to_z, of_z}
use Rattle.std.proofs.Math.Nat.{mul-le-mul}
use Rattle.std.proofs.lemmas.Int.{ints, to_z-of_z, unsigned_abs-mul}

-- a product is within the product of its factors' bounds
pub product_bound : (a b : ℤ) (m n : ℕ) → unsigned_abs a ≤ m → unsigned_abs b ≤ n → unsigned_abs (a *ℤ b) ≤ m * n
product_bound a b m n a_in b_in = rw unsigned_abs-mul (mul-le-mul a_in b_in)

-- what the product of two differences is that is taken over bits
pub product_value : (a b : ℤ) → FitsSigned w64 a → FitsSigned w64 b → unsigned_abs a ≤ 2 ^ 31 → unsigned_abs b ≤ 2 ^ 31
    → to_z w64 (of_z w64 (to_z w64 (of_z w64 a) *ℤ to_z w64 (of_z w64 b))) ≡ a *ℤ b
product_value a b a_fits b_fits a_in b_in =
    let fits : FitsSigned w64 (a *ℤ b) = near_fits (a *ℤ b) (product_bound a b (2 ^ 31) (2 ^ 31) a_in b_in) in
    simp to_z-of_z
  where
    near_fits : (z : ℤ) → unsigned_abs z ≤ 2 ^ 62 → FitsSigned w64 z
    near_fits z near = omega (arith, ints)

-- for `grind`: a value that fits is read through its bits
pub ruleset read = (to_z-of_z)
