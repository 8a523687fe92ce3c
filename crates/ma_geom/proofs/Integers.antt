-- Laws of whole numbers that std lacks: products regroup and distribute, and signs of products.
use Rattle.std.proofs.Common.{◌≡◌, ℕ, zero, suc, ◌*◌, arith, ap}
use Rattle.std.specs.Prelude.{ℤ, pos, negsuc, ◌+ℤ◌, ◌-ℤ◌, ◌*ℤ◌, ◌≤ℤ◌, ◌<ℤ◌, int_div, int_rem}
use Rattle.std.proofs.lemmas.Int.{ints}
use Rattle.std.proofs.Math.IntN.{*ℤ_comm}
use borrow.Author.Differences.{up, down, sum_is_lem, product_is}

-- ---- for `omega`, which takes a product of two unknowns as an unknown: an equation times a factor
scaled : (k m n : ℕ) → m ≡ n → m * k ≡ n * k
scaled k m n e = ap (λ (x : ℕ). x * k) e

pub *ℤ-+ℤ : (a b c : ℤ) → a *ℤ (b +ℤ c) ≡ (a *ℤ b) +ℤ (a *ℤ c)
*ℤ-+ℤ a b c =
    let s = sum_is_lem b c in
    omega (arith, ints, scaled (up a) _ _ s, scaled (down a) _ _ s)

pub +ℤ-*ℤ : (a b c : ℤ) → (a +ℤ b) *ℤ c ≡ (a *ℤ c) +ℤ (b *ℤ c)
+ℤ-*ℤ a b c =
    let s = sum_is_lem a b in
    omega (arith, ints, scaled (up c) _ _ s, scaled (down c) _ _ s)

pub *ℤ_assoc : (a b c : ℤ) → (a *ℤ b) *ℤ c ≡ a *ℤ (b *ℤ c)
*ℤ_assoc a b c =
    let l = product_is a b in
    let r = product_is b c in
    omega (arith, ints, scaled (up c) _ _ l.0, scaled (up c) _ _ l.1, scaled (down c) _ _ l.0, scaled (down c) _ _ l.1, scaled (up a) _ _ r.0, scaled (up a) _ _ r.1, scaled (down a) _ _ r.0, scaled (down a) _ _ r.1)

-- ---- signs of products
pub positive-*ℤ : (a b : ℤ) → pos 0 <ℤ a → pos 0 <ℤ b → pos 0 <ℤ (a *ℤ b)
positive-*ℤ (pos zero) b h k = absurd (omega (arith, ints))
positive-*ℤ (negsuc m) b h k = absurd (omega (arith, ints))
positive-*ℤ (pos (suc m)) (pos zero) h k = absurd (omega (arith, ints))
positive-*ℤ (pos (suc m)) (negsuc n) h k = absurd (omega (arith, ints))
positive-*ℤ (pos (suc m)) (pos (suc n)) h k = omega (arith, ints)

-- a factor beside a positive one has the product's sign
pub positive_factor : (w a : ℤ) → pos 0 <ℤ w → pos 0 <ℤ (w *ℤ a) → pos 0 <ℤ a
positive_factor (pos zero) a h k = absurd (omega (arith, ints))
positive_factor (negsuc m) a h k = absurd (omega (arith, ints))
positive_factor (pos (suc m)) (pos zero) h k = omega (arith, ints)
positive_factor (pos (suc m)) (pos (suc n)) h k = omega (arith, ints)
positive_factor (pos (suc m)) (negsuc n) h k = absurd (omega (arith, ints))

pub not_negative-*ℤ : (a b : ℤ) → pos 0 ≤ℤ a → pos 0 ≤ℤ b → pos 0 ≤ℤ (a *ℤ b)
not_negative-*ℤ (pos m) (pos n) h k = omega (arith, ints)
not_negative-*ℤ (pos m) (negsuc n) h k = absurd (omega (arith, ints))
not_negative-*ℤ (negsuc m) b h k = absurd (omega (arith, ints))

pub square_not_negative : (a : ℤ) → pos 0 ≤ℤ (a *ℤ a)
square_not_negative (pos m) = omega (arith, ints)
square_not_negative (negsuc m) = omega (arith, ints)

-- a factor that is not negative keeps an order
pub *ℤ-≤ℤ : (a b c : ℤ) → a ≤ℤ b → pos 0 ≤ℤ c → (a *ℤ c) ≤ℤ (b *ℤ c)
*ℤ-≤ℤ a b c h k =
    let gap : pos 0 ≤ℤ (b -ℤ a) = omega (arith, ints) in
    let product = not_negative-*ℤ (b -ℤ a) c gap k in
    let whole : (b -ℤ a) +ℤ a ≡ b = omega (arith, ints) in
    let split = +ℤ-*ℤ (b -ℤ a) a c in
    let sum : (b *ℤ c) ≡ ((b -ℤ a) *ℤ c) +ℤ (a *ℤ c) = rw whole at split in
    over (a *ℤ c) (b *ℤ c) ((b -ℤ a) *ℤ c) product sum
  where
    over : (x y z : ℤ) → pos 0 ≤ℤ z → y ≡ z +ℤ x → x ≤ℤ y
    over x y z h e = omega (arith, ints)

-- so do two orders, multiplied
pub *ℤ-≤ℤ-both : (a b c d : ℤ) → a ≤ℤ b → c ≤ℤ d → pos 0 ≤ℤ b → pos 0 ≤ℤ c → (a *ℤ c) ≤ℤ (b *ℤ d)
*ℤ-≤ℤ-both a b c d first second b_known c_known =
    let near = *ℤ-≤ℤ a b c first c_known in
    let far = *ℤ-≤ℤ c d b second b_known in
    through (a *ℤ c) (b *ℤ c) (c *ℤ b) (d *ℤ b) (b *ℤ d) near (*ℤ_comm b c) far (*ℤ_comm d b)
  where
    through : (p q r s t : ℤ) → p ≤ℤ q → q ≡ r → r ≤ℤ s → s ≡ t → p ≤ℤ t
    through p q r s t pq qr rs st = omega (arith, ints)

-- ---- halves
pub twice_half : (n : ℤ) → int_rem n (pos 2) ≡ pos 0 → int_div n (pos 2) +ℤ int_div n (pos 2) ≡ n
twice_half n even = omega (arith, ints)

pub half_of_twice : (m n : ℤ) → m +ℤ m ≡ n → (int_div n (pos 2) ≡ m) × (int_rem n (pos 2) ≡ pos 0)
half_of_twice m n twice = (omega (arith, ints), omega (arith, ints))
