-- Rows of bits.
use Rattle.std.proofs.Common.{ℕ, refl, ◌≡◌, ◌*◌, ◌/◌, ◌%◌, ◌^◌, ◌<◌, ◌≢◌, List, length, get_or, set, max, w64, bit_or, sym, ap, ◌∙◌, arith, ⊎_elim}
use Rattle.std.specs.Int.{bit_at}
use Rattle.std.proofs.lemmas.Bool.{cases_eq}
use Rattle.std.proofs.lemmas.Grind.{get_or-set_at}
use Rattle.std.proofs.lemmas.List.{get_or_read, get_or-set_other}
use Rattle.std.proofs.lemmas.Nat.Bits.{bit_at-lt, bit_at_or, bit_at_set_same}
use Rattle.size_marks.specs.steps.Slabs.{IsMarked}

one_of : (a b : ℕ) → a ≡ 1 → b < 2 → max a b ≡ 1
one_of a b e h = omega arith

-- a bit that is set stays set where another is
pub kept : (row : List ℕ) (b w x : ℕ) → w ≡ get_or row b w → b < length row → (i : ℕ) → IsMarked row i → IsMarked (set row b (bit_or w x)) i
kept row b w x is within i was = ⊎_elim
    (λ (same : i / 64 ≡ b).
    let one : bit_at w (i % 64) ≡ 1 =
    ap (λ (n : ℕ). bit_at n (i % 64)) (get_or_read row b w within is 0) ∙ ap (λ (k : ℕ). bit_at (get_or row k 0) (i % 64)) (sym same) ∙ was in
    ap (λ (n : ℕ). bit_at n (i % 64)) (get_or-set_at row b (i / 64) (bit_or w x) 0 same within) ∙ bit_at_or w x (i % 64)
    ∙ one_of (bit_at w (i % 64)) (bit_at x (i % 64)) one (bit_at-lt x (i % 64)))
    (λ (other : i / 64 ≢ b). ap (λ (n : ℕ). bit_at n (i % 64)) (get_or-set_other row b (i / 64) (bit_or w x) 0 other) ∙ was)
    (cases_eq (i / 64) b)

pub marked : (row : List ℕ) (k w : ℕ) → k / 64 < length row → IsMarked (set row (k / 64) (bit_or w (1 * 2 ^ (k % 64) % 2 ^ 64))) k
marked row k w within =
    let small : k % 64 < 64 = omega arith in
    ap (λ (n : ℕ). bit_at n (k % 64)) (get_or-set_at row (k / 64) (k / 64) (bit_or w (1 * 2 ^ (k % 64) % 2 ^ 64)) 0 refl within) ∙ bit_at_set_same w64 w (k % 64) small
