-- Which box decides the size, from the bits of a mask.
use Rattle.std.proofs.Common.{ℕ, zero, suc, ◌≡◌, ◌≢◌, ◌-◌, ◌^◌, ◌<◌, ◌≤◌, Bool, true, false, cond, List, [], ◌∷◌, length, get_or, map, filter, bit_and, refl, sym, ap, subst, ◌∙◌, arith, ⊎_elim}
use Rattle.std.specs.Prelude.{Some, None}
use Rattle.std.specs.Int.{bit_at, leading_zeros}
use Rattle.std.proofs.Common.{w64}
use Rattle.std.proofs.lemmas.Bool.{cases_eq, cases_lt, false≢true}
use Rattle.std.proofs.lemmas.Nat.{leading_top}
use Rattle.std.proofs.lemmas.Nat.Bits.{bit_at_above, bit_at_and, bit_at_ones}
use Rattle.ma_geom.specs.Coordinates.{Coordinates}
use Rattle.size_marks.specs.Field.{BoxedSize, holds, last_or, sizes_at}
use Rattle.size_marks.specs.steps.Slabs.{DecidesSize, IsSizeIfHolds, MasksHolders}

-- none of the boxes from number n on holds the place
abbrev pub NoneFrom : List BoxedSize → Coordinates → ℕ → Type 0
NoneFrom boxes p n = (k : ℕ) (d : BoxedSize) → n ≤ k → k < length boxes → holds (get_or boxes k d) p ≡ false

later : (b : BoxedSize) (boxes : List BoxedSize) (p : Coordinates) (n : ℕ) → NoneFrom (b ∷ boxes) p (suc n) → NoneFrom boxes p n
later b boxes p n none k d low high = none (suc k) d (omega arith) (omega arith)

no_size : (boxes : List BoxedSize) (p : Coordinates) → NoneFrom boxes p zero → sizes_at boxes p ≡ []
no_size [] p none = refl
no_size (b ∷ bs) p none =
    let rest : sizes_at bs p ≡ [] = no_size bs p (λ k d low high. none (suc k) d (omega arith) (omega arith)) in
    ap (λ (test : Bool). map (λ (a : BoxedSize). a.size) (cond test (b ∷ filter (λ a. holds a p) bs) (filter (λ a. holds a p) bs))) (none zero b (omega arith) (omega arith)) ∙ rest

last_size : (boxes : List BoxedSize) (p : Coordinates) (n : ℕ) (b : BoxedSize) (d : ℕ) → n < length boxes → b ≡ get_or boxes n b → holds b p ≡ true → NoneFrom boxes p (suc n) → last_or d (sizes_at boxes p) ≡ b.size
last_size [] p n b d within is held none = absurd (omega arith)
last_size (x ∷ xs) p zero b d within is held none =
    ap (λ (test : Bool). last_or d (map (λ (a : BoxedSize). a.size) (cond test (x ∷ filter (λ a. holds a p) xs) (filter (λ a. holds a p) xs)))) (ap (λ (a : BoxedSize). holds a p) (sym is) ∙ held)
    ∙ ap (last_or x.size) (no_size xs p (later x xs p zero none)) ∙ ap (λ (a : BoxedSize). a.size) (sym is)
last_size (x ∷ xs) p (suc n) b d within is held none =
    let rest = filter (λ (a : BoxedSize). holds a p) xs in
    elim (holds x p) as (λ (test : Bool). last_or d (map (λ (a : BoxedSize). a.size) (cond test (x ∷ rest) rest)) ≡ b.size) [
      | true ↦ last_size xs p n b x.size (omega arith) is held (later x xs p (suc n) none)
      | false ↦ last_size xs p n b d (omega arith) is held (later x xs p (suc n) none)
    ]

unset : (b : Bool) (n : ℕ) → (b ≡ true → n ≡ 1) → n ≡ 0 → b ≡ false
unset true n h e = absurd (omega (arith, h refl))
unset false n h e = refl

-- where no bit from n on is set, no box from n on holds the place
none_above : (boxes : List BoxedSize) (mask : ℕ) (p : Coordinates) (n : ℕ) → MasksHolders boxes mask p → mask < 2 ^ n → NoneFrom boxes p n
none_above boxes mask p n masks small k d low high = unset (holds (get_or boxes k d) p) (bit_at mask k) (masks k d high) (bit_at_above mask n k small low)

pub decides_none : (boxes : List BoxedSize) (mask : ℕ) (p : Coordinates) → MasksHolders boxes mask p → mask ≡ 0 → sizes_at boxes p ≡ []
decides_none boxes mask p masks e = no_size boxes p (none_above boxes mask p zero masks (omega arith))

-- the highest bit of a mask
pub record IsTop (mask top : ℕ) : Type 0 where
  pub within : top < 64
  pub low : 2 ^ top ≤ mask
  pub high : mask < 2 ^ suc top

pub top_of : (mask zeros : ℕ) → zero < mask → mask < 2 ^ 64 → zeros ≡ leading_zeros w64 mask → IsTop mask (63 - zeros)
top_of mask zeros some small e =
    let found = leading_top 64 mask some small in
    let at : 63 - zeros ≡ found.0 = omega (arith, e, found.1) in
    let Top : ℕ → Type 0 = λ n. IsTop mask n in
    subst Top (sym at) record { within = omega (arith, found.1); low = found.2; high = found.3 }

pub decides_last : (boxes : List BoxedSize) (mask : ℕ) (p : Coordinates) (n size : ℕ) → MasksHolders boxes mask p → IsTop mask n → IsSizeIfHolds boxes n p (Some size) → DecidesSize boxes p (Some size)
decides_last boxes mask p n size masks top held =
    (λ d. last_size boxes p n held.0 d held.1 held.2 held.3 (none_above boxes mask p (suc n) masks top.high) ∙ sym held.4, held.5)

-- where the box at the highest bit does not hold the place, the bits below it tell all that do
pub masks_less : (boxes : List BoxedSize) (mask : ℕ) (p : Coordinates) (n : ℕ) → MasksHolders boxes mask p → IsTop mask n → IsSizeIfHolds boxes n p None → MasksHolders boxes (bit_and mask (2 ^ n - 1)) p
masks_less boxes mask p n masks top not_here j d within held =
    let set : bit_at mask j ≡ 1 = masks j d within held in
    ⊎_elim
    (λ (below : j < n). bit_at_and mask (2 ^ n - 1) j ∙ omega (arith, set, bit_at_ones n j below))
    (λ (above : n ≤ j). ⊎_elim
    (λ (same : n ≡ j).
    let Fails : ℕ → Type 0 = λ k. k < length boxes → holds (get_or boxes k d) p ≡ false in
    absurd (false≢true (sym (subst Fails same (not_here d) within) ∙ held)))
    (λ (other : n ≢ j). absurd (omega (arith, set, bit_at_above mask (suc n) j top.high (omega arith))))
    (cases_eq n j))
    (cases_lt j n)
