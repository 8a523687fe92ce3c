-- Bits that choose items.
use Rattle.std.proofs.Common.{◌≡◌, ℕ, ◌+◌, ◌*◌, ◌/◌, ◌%◌, ◌==◌, Bool, true, false, List, [], ◌∷◌, map, filter, refl, ap, arith}
use Rattle.std.specs.Prelude.{cond}
use Rattle.split_templates.specs.Edges.{chosen, mask_of}

even_half : (n : ℕ) → (0 + 2 * n) / 2 ≡ n
even_half n = omega arith

odd_half : (n : ℕ) → (1 + 2 * n) / 2 ≡ n
odd_half n = omega arith

even_bit : (n : ℕ) → (0 + 2 * n) % 2 ≡ 0
even_bit n = omega arith

odd_bit : (n : ℕ) → (1 + 2 * n) % 2 ≡ 1
odd_bit n = omega arith

pub chosen-mask_of : {X : Type 0} (test : X → Bool) (xs : List X) → chosen (mask_of test xs) xs ≡ filter test xs
chosen-mask_of test [] = refl
chosen-mask_of test (x ∷ xs) =
    let n = mask_of test xs in
    elim (test x) as (λ b. cond ((cond b 1 0 + 2 * n) % 2 == 1) (x ∷ chosen ((cond b 1 0 + 2 * n) / 2) xs) (chosen ((cond b 1 0 + 2 * n) / 2) xs) ≡ cond b (x ∷ filter test xs) (filter test xs)) [
      | true ↦ rw (odd_bit n, odd_half n) (ap (λ ys. x ∷ ys) (chosen-mask_of test xs))
      | false ↦ rw (even_bit n, even_half n) (chosen-mask_of test xs)
    ]

pub mask_of-map : {X : Type 0} (test : X → Bool) (xs : List X) → mask_of (λ b. b) (map test xs) ≡ mask_of test xs
mask_of-map test [] = refl
mask_of-map test (x ∷ xs) = ap (λ n. cond (test x) 1 0 + 2 * n) (mask_of-map test xs)

pub chosen-odd : {X : Type 0} (mask : ℕ) (x : X) (xs : List X) → mask % 2 ≡ 1 → chosen mask (x ∷ xs) ≡ x ∷ chosen (mask / 2) xs
chosen-odd mask x xs odd = rw odd refl
