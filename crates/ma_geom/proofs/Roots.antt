-- The square root, rounded down.
use Rattle.std.proofs.Common.{◌≡◌, ℕ, zero, suc, ◌+◌, ◌*◌, ◌<◌, ◌≤◌, Bool, true, false, cond, refl, inl, inr, arith, sym}
use Rattle.std.proofs.Math.Nat.{mul-le-mul}
use Rattle.std.proofs.lemmas.Bool.{cases_lt}
use Rattle.std.proofs.lemmas.Bool.Decides.{nat_tests}
use Rattle.std.specs.Prelude.{nat_le}
use Rattle.ma_geom.specs.Quality.{root, root_up_to}

-- numbers are ordered as their squares
pub below_root : (x s l : ℕ) → x * x ≤ l → l < (s + 1) * (s + 1) → x ≤ s
below_root x s l low high =
    elim (cases_lt s x) [
      | inl above ↦ let more : s + 1 ≤ x = omega arith in let squares : (s + 1) * (s + 1) ≤ x * x = mul-le-mul more more in absurd (omega (arith, squares))
      | inr within ↦ within
    ]

-- one step of the search from above
step : (b : Bool) (m s n : ℕ) → (b ≡ true → suc m * suc m ≤ n) → (b ≡ false → n < suc m * suc m) → s ≤ suc m → s * s ≤ n → n < (s + 1) * (s + 1) → (s ≤ m → root_up_to m n ≡ s) → cond b (suc m) (root_up_to m n) ≡ s
step true m s n holds fails most low high rest =
    let within : suc m ≤ s = below_root (suc m) s n (holds refl) high in
    omega arith
step false m s n holds fails most low high rest =
    let above : n < (m + 1) * (m + 1) = omega (arith, fails refl) in
    rest (below_root s m n low above)

pub root_up_to-is : (m s n : ℕ) → s ≤ m → s * s ≤ n → n < (s + 1) * (s + 1) → root_up_to m n ≡ s
root_up_to-is zero s n most low high = omega arith
root_up_to-is (suc m) s n most low high =
    step (nat_le (suc m * suc m) n) m s n (λ h. grind (arith, nat_tests)) (λ h. grind (arith, nat_tests)) most low high (λ h. root_up_to-is m s n h low high)

-- only the square root has these squares around n
pub one_root : (s n : ℕ) → s * s ≤ n → n < (s + 1) * (s + 1) → s ≡ root n
unfolding root
one_root s n low high =
    let most : s ≤ n = grind arith in
    sym (root_up_to-is n s n most low high)
