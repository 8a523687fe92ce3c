-- Multiples of powers of two: what is halfway between two multiples of twice a number is a multiple of the number.
use Rattle.std.proofs.Common.{◌≡◌, ℕ, suc, ◌+◌, ◌-◌, ◌*◌, ◌/◌, ◌%◌, ◌^◌, ◌⊎◌, inl, inr, true, eqb, refl, sym, ◌∙◌, subst, arith}
use Rattle.std.specs.Prelude.{ℤ, ◌+ℤ◌, unsigned_abs}
use Rattle.std.proofs.Math.Nat.{div-add-mod, mul-add, mul-mod_right, mul-sub, mul_assoc}
use Rattle.std.proofs.lemmas.Bool.Decides.{nat_tests}
use Rattle.std.proofs.lemmas.Int.{ints}
use Rattle.ma_cells.specs.Grid.{is_multiple}

zero_test : (n : ℕ) → eqb n 0 ≡ true → n ≡ 0
zero_test n h = grind (arith, nat_tests)

-- how often n goes into a
times : (n a : ℕ) → eqb (a % n) 0 ≡ true → a ≡ n * (a / n)
times n a h =
    let none = zero_test (a % n) h in
    let whole = div-add-mod a n in
    omega arith

is_times : (n a q : ℕ) → a ≡ n * q → eqb (a % n) 0 ≡ true
is_times n a q e = rw (e, mul-mod_right n q) refl

twice_times : (n a : ℕ) → eqb (a % (2 * n)) 0 ≡ true → a ≡ 2 * (n * (a / (2 * n)))
twice_times n a h = times (2 * n) a h ∙ mul_assoc 2 n (a / (2 * n))

-- what is halfway between two even numbers has the sum of their halves, or the difference, as its absolute value
halfway : (a b m : ℤ) (u v : ℕ) → m +ℤ m ≡ a +ℤ b → unsigned_abs a ≡ 2 * u → unsigned_abs b ≡ 2 * v
    → (unsigned_abs m ≡ u + v) ⊎ ((unsigned_abs m ≡ u - v) ⊎ (unsigned_abs m ≡ v - u))
halfway a b m u v middle first second = grind (arith, ints)

multiple_halfway : (n : ℕ) (a b m : ℤ) → m +ℤ m ≡ a +ℤ b → eqb (unsigned_abs a % (2 * n)) 0 ≡ true → eqb (unsigned_abs b % (2 * n)) 0 ≡ true → eqb (unsigned_abs m % n) 0 ≡ true
multiple_halfway n a b m middle first second =
    let q = unsigned_abs a / (2 * n) in
    let r = unsigned_abs b / (2 * n) in
    elim (halfway a b m (n * q) (n * r) middle (twice_times n (unsigned_abs a) first) (twice_times n (unsigned_abs b) second)) [
      | inl sum ↦ is_times n (unsigned_abs m) (q + r) (sum ∙ sym (mul-add n q r))
      | inr difference ↦ elim difference [
        | inl above ↦ is_times n (unsigned_abs m) (q - r) (above ∙ sym (mul-sub n q r))
        | inr below ↦ is_times n (unsigned_abs m) (r - q) (below ∙ sym (mul-sub n r q))
      ]
    ]

multiple_of_half : (n a : ℕ) → eqb (a % (2 * n)) 0 ≡ true → eqb (a % n) 0 ≡ true
multiple_of_half n a h =
    let q = a / (2 * n) in
    is_times n a (2 * q) (twice_times n a h ∙ moved q)
  where
    moved : (q : ℕ) → 2 * (n * q) ≡ n * (2 * q)
    moved q = omega arith

-- ---- powers of two
doubled : (k : ℕ) → 2 ^ suc k ≡ 2 * 2 ^ k
doubled k = omega arith

finer : (k : ℕ) (c : ℤ) → is_multiple (suc k) c ≡ true → eqb (unsigned_abs c % (2 * 2 ^ k)) 0 ≡ true
unfolding is_multiple
finer k c h = subst (λ n. eqb (unsigned_abs c % n) 0 ≡ true) (doubled k) h

pub is_multiple-half : (k : ℕ) (c : ℤ) → is_multiple (suc k) c ≡ true → is_multiple k c ≡ true
unfolding is_multiple
is_multiple-half k c h = multiple_of_half (2 ^ k) (unsigned_abs c) (finer k c h)

pub is_multiple-halfway : (k : ℕ) (a b m : ℤ) → m +ℤ m ≡ a +ℤ b → is_multiple (suc k) a ≡ true → is_multiple (suc k) b ≡ true → is_multiple k m ≡ true
unfolding is_multiple
is_multiple-halfway k a b m middle first second = multiple_halfway (2 ^ k) a b m middle (finer k a first) (finer k b second)
