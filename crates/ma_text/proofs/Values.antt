-- Digits that are read one after the other, as far as 64 bits hold the number.
use Rattle.std.proofs.Common.{◌≡◌, ℕ, ◌+◌, ◌^◌, ◌<◌, ◌≤◌, List, [], ◌∷◌, length, get_or, drop, Option, Some, None, refl, sym, ap, ◌∙◌, arith, add-one, drop-cons, inl, inr, fold}
use Rattle.std.proofs.lemmas.Bool.{lt-ltb, le-ltb, cases_lt}
use Rattle.ma_text.specs.Numbers.{with_digit}
use Rattle.ma_text.specs.steps.Digits.{within_64_bits}

-- the digits of `rest` behind `value`
abbrev pub read_from : ℕ → List ℕ → Option ℕ
read_from value rest = within_64_bits (fold with_digit value rest)

grows : (value : ℕ) (rest : List ℕ) → value ≤ fold with_digit value rest
grows value [] = omega arith
grows value (d ∷ rest) = omega (arith, grows (with_digit value d) rest)

-- a number that is too large stays so
stays_past : (value : ℕ) (rest : List ℕ) → None ≡ within_64_bits value → None ≡ read_from value rest
stays_past value rest past =
    elim (cases_lt value (2 ^ 64)) [
      | inl fits ↦ absurd (let some : within_64_bits value ≡ Some value = rw (lt-ltb value (2 ^ 64) fits) refl in cc)
      | inr above ↦ rw (le-ltb (fold with_digit value rest) (2 ^ 64) (omega (arith, grows value rest))) refl
    ]

within_is : (value n : ℕ) → Some n ≡ within_64_bits value → value ≡ n
within_is value n some =
    elim (cases_lt value (2 ^ 64)) [
      | inl fits ↦ let is : within_64_bits value ≡ Some value = rw (lt-ltb value (2 ^ 64) fits) refl in cc
      | inr above ↦ absurd (let is : within_64_bits value ≡ None = rw (le-ltb value (2 ^ 64) above) refl in cc)
    ]

steps : (value i : ℕ) (digits : List ℕ) → i < length digits → read_from value (drop i digits) ≡ read_from (with_digit value (get_or digits i 0)) (drop (i + 1) digits)
steps value i digits within = rw (add-one, drop-cons digits i 0) refl

-- the number gets too large
pub stops : (value i : ℕ) (digits : List ℕ) (total : Option ℕ) → i < length digits → None ≡ within_64_bits (with_digit value (get_or digits i 0)) → read_from value (drop i digits) ≡ total → None ≡ total
stops value i digits total within none so_far = stays_past (with_digit value (get_or digits i 0)) (drop (i + 1) digits) none ∙ sym (steps value i digits within) ∙ so_far

-- it takes one more digit
pub moves : (value i n : ℕ) (digits : List ℕ) (total : Option ℕ) → i < length digits → Some n ≡ within_64_bits (with_digit value (get_or digits i 0)) → read_from value (drop i digits) ≡ total → read_from n (drop (i + 1) digits) ≡ total
moves value i n digits total within some so_far = ap (λ v. read_from v (drop (i + 1) digits)) (sym (within_is _ n some)) ∙ sym (steps value i digits within) ∙ so_far
