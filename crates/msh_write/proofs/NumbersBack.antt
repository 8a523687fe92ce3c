-- Decimal numbers are read as the numbers that they write.
use Rattle.std.proofs.Common.{◌≡◌, ℕ, suc, ◌+◌, ◌/◌, ◌%◌, ◌^◌, ◌<◌, ◌≤◌, Bool, true, false, not, leb, eqb, ◌||◌, List, [], ◌∷◌, ◌++◌, length, fold, Some, refl, ap, ◌∙◌, arith, inl, inr, decimal, length-append, ℤ, pos, negsuc}
use Rattle.std.specs.Fmt.{signed_decimal}
use Rattle.std.specs.Prelude.{Ok}
use Rattle.std.specs.List.{list_all, before_first, after_first}
use Rattle.std.proofs.lemmas.Bool.{and_from, and_parts, cases_Bool, eqb-true, le-leb, leb-true, lt-ltb, ne_eqb, not-true, not_from_false, or_right}
use Rattle.std.proofs.lemmas.Fmt.{decimal_by_steps}
use Rattle.std.proofs.lemmas.List.Folds.{list_all-append}
use Rattle.std.proofs.lemmas.List.Sums.{fold-append}
use Rattle.ma_text.specs.Numbers.{are_digits, digits_of, is_digit, is_point, whole_of, with_digit, written, written_whole}
use Rattle.ma_text.proofs.Firsts.{before_first-no, after_first-no}

-- digits that write the number
pub record Writes (n : ℕ) (digits : List ℕ) : Type 0 where
  pub some : 0 < length digits
  pub digits_alone : list_all is_digit digits ≡ true
  pub value : fold with_digit 0 digits ≡ n

digit : (d : ℕ) → d < 10 → is_digit (48 + d) ≡ true
digit d h = and_from _ _ (le-leb 48 (48 + d) (omega arith)) (le-leb (48 + d) 57 (omega arith))

pub decimal-Writes : (n : ℕ) → n < 2 ^ 64 → Writes n (decimal n)
decimal-Writes = decimal_by_steps Writes one more
  where
    one : (n : ℕ) → n < 10 → Writes n ((48 + n) ∷ [])
    one n h = record { some = omega arith; digits_alone = and_from _ _ (digit n h) refl; value = omega arith }

    more : (n : ℕ) (ds : List ℕ) → 10 ≤ n → Writes (n / 10) ds → Writes n (ds ++ (48 + n % 10) ∷ [])
    more n ds h w = record {
      some = omega (arith, length-append ds ((48 + n % 10) ∷ []));
      digits_alone = list_all-append is_digit ds ((48 + n % 10) ∷ []) ∙ and_from _ _ w.digits_alone (and_from _ _ (digit (n % 10) (omega arith)) refl);
      value = fold-append with_digit 0 ds ((48 + n % 10) ∷ []) ∙ ap (λ v. with_digit v (48 + n % 10)) w.value ∙ omega arith;
    }

are_digits-Writes : (n : ℕ) (ds : List ℕ) → Writes n ds → are_digits ds ≡ true
are_digits-Writes n ds w = and_from _ _ (lt-ltb 0 (length ds) w.some) w.digits_alone

-- no digit is a sign
not_sign : (d : ℕ) → is_digit d ≡ true → (eqb d 43 ≡ false) × (eqb d 45 ≡ false)
not_sign d h =
    let low : 48 ≤ d = leb-true 48 d (and_parts (leb 48 d) (leb d 57) h).0 in
    (ne_eqb d 43 (λ e. omega arith), ne_eqb d 45 (λ e. omega arith))

-- digits, and digits behind a minus
written-digits : (n : ℕ) (ds : List ℕ) → Writes n ds → written ds ≡ Some (pos n)
unfolding written
written-digits n [] w = absurd (omega (arith, w.some))
written-digits n (d ∷ ds) w =
    let plain = not_sign d (and_parts (is_digit d) (list_all is_digit ds) w.digits_alone).0 in
    rw (plain.0, plain.1, are_digits-Writes n (d ∷ ds) w) (ap (λ v. Some (pos v)) w.value)

written-minus : (n : ℕ) (ds : List ℕ) → Writes (suc n) ds → written (45 ∷ ds) ≡ Some (negsuc n)
unfolding written
written-minus n ds w = rw (are_digits-Writes (suc n) ds w, w.value) refl

-- the words of numbers from -2^63 to 2^63 - 1
abbrev pub fits_64 : ℤ → Type 0
fits_64 (pos n) = n < 2 ^ 63
fits_64 (negsuc n) = n < 2 ^ 63

pub written-signed : (z : ℤ) → fits_64 z → written (signed_decimal z) ≡ Some z
written-signed (pos n) h = written-digits n (decimal n) (decimal-Writes n (omega arith))
written-signed (negsuc n) h = written-minus n (decimal (suc n)) (decimal-Writes (suc n) (omega arith))

pub digits_of-digits : (n : ℕ) (ds : List ℕ) → Writes n ds → n < 2 ^ 63 → digits_of ds ≡ Ok (pos n)
unfolding digits_of
digits_of-digits n [] w h = absurd (omega (arith, w.some))
digits_of-digits n (d ∷ ds) w h = rw (written-digits n (d ∷ ds) w, lt-ltb n (2 ^ 63) h) refl

pub digits_of-decimal : (n : ℕ) → n < 2 ^ 63 → digits_of (decimal n) ≡ Ok (pos n)
digits_of-decimal n h = digits_of-digits n (decimal n) (decimal-Writes n (omega arith)) h

pub digits_of-signed : (z : ℤ) → fits_64 z → digits_of (signed_decimal z) ≡ Ok z
unfolding digits_of
digits_of-signed (pos n) h = digits_of-decimal n h
digits_of-signed (negsuc n) h = rw (written-signed (negsuc n) h, lt-ltb n (2 ^ 63) h) refl

-- ---- coordinates, which may have a point

-- no byte passes
pub before_first-none : (p : ℕ → Bool) (xs : List ℕ) → list_all (λ x. not (p x)) xs ≡ true → before_first p xs ≡ xs
before_first-none p [] h = refl
before_first-none p (x ∷ xs) h =
    let parts = and_parts (not (p x)) (list_all (λ y. not (p y)) xs) h in
    before_first-no p x xs (not-true (p x) parts.0) ∙ ap (λ r. x ∷ r) (before_first-none p xs parts.1)

pub after_first-none : (p : ℕ → Bool) (xs : List ℕ) → list_all (λ x. not (p x)) xs ≡ true → after_first p xs ≡ []
after_first-none p [] h = refl
after_first-none p (x ∷ xs) h =
    let parts = and_parts (not (p x)) (list_all (λ y. not (p y)) xs) h in
    after_first-no p x xs (not-true (p x) parts.0) ∙ after_first-none p xs parts.1

-- a minus or a digit
abbrev pub is_of_number : ℕ → Bool
is_of_number byte = eqb byte 45 || is_digit byte

pub weaker : (p q : ℕ → Bool) → ((x : ℕ) → p x ≡ true → q x ≡ true) → (xs : List ℕ) → list_all p xs ≡ true → list_all q xs ≡ true
weaker p q imp [] h = refl
weaker p q imp (x ∷ xs) h =
    let parts = and_parts (p x) (list_all p xs) h in
    and_from _ _ (imp x parts.0) (weaker p q imp xs parts.1)

digit_too : (x : ℕ) → is_digit x ≡ true → is_of_number x ≡ true
digit_too x h = or_right (eqb x 45) (is_digit x) h

pub decimal-bytes : (n : ℕ) → n < 2 ^ 64 → list_all is_of_number (decimal n) ≡ true
decimal-bytes n h = weaker is_digit is_of_number digit_too (decimal n) (decimal-Writes n h).digits_alone

pub signed-bytes : (z : ℤ) → fits_64 z → list_all is_of_number (signed_decimal z) ≡ true
signed-bytes (pos n) h = decimal-bytes n (omega arith)
signed-bytes (negsuc n) h = decimal-bytes (suc n) (omega arith)

not_point : (x : ℕ) → is_of_number x ≡ true → not (is_point x) ≡ true
not_point x h =
    elim (cases_Bool (eqb x 45)) [
      | inl minus ↦ let is : x ≡ 45 = eqb-true x 45 minus in rw is refl
      | inr other ↦ let d : is_digit x ≡ true = rw other at h in
          let low : 48 ≤ x = leb-true 48 x (and_parts (leb 48 x) (leb x 57) d).0 in
          not_from_false (is_point x) (ne_eqb x 46 (λ e. omega arith))
    ]

pub whole_of-plain : (word : List ℕ) → list_all (λ x. not (is_point x)) word ≡ true → whole_of word ≡ digits_of word
unfolding whole_of digits_of written_whole
whole_of-plain [] h = refl
whole_of-plain (x ∷ word) h = rw (after_first-none is_point (x ∷ word) h, before_first-none is_point (x ∷ word) h) refl

pub whole_of-signed : (z : ℤ) → fits_64 z → whole_of (signed_decimal z) ≡ Ok z
whole_of-signed z h =
    whole_of-plain (signed_decimal z) (weaker is_of_number (λ x. not (is_point x)) not_point (signed_decimal z) (signed-bytes z h)) ∙ digits_of-signed z h

pub signed-some : (z : ℤ) → fits_64 z → 0 < length (signed_decimal z)
signed-some (pos n) h = (decimal-Writes n (omega arith)).some
signed-some (negsuc n) h = omega arith
