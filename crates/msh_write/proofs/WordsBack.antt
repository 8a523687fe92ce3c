-- The words of a line that words divided by one space make.
use Rattle.std.proofs.Common.{◌≡◌, ℕ, ◌^◌, ◌<◌, ◌≤◌, Bool, true, false, ltb, leb, eqb, ◌&&◌, List, [], ◌∷◌, ◌++◌, length, filter, Some, refl, ap, ◌∙◌, arith, inl, inr, decimal, ℤ}
use Rattle.std.specs.Fmt.{signed_decimal}
use Rattle.std.specs.List.{All, list_all, slice_split}
use Rattle.std.proofs.lemmas.Bool.{and_from, and_parts, cases_Bool, eqb-true, leb-true, lt-ltb, ltb-true, ne_eqb, or_from}
use Rattle.std.proofs.lemmas.List.Elements.{All-cons, All-nil}
use Rattle.std.proofs.lemmas.List.Splits.{slice_split_none, slice_split_at}
use Rattle.ma_text.specs.Blanks.{is_blank}
use Rattle.ma_text.specs.Words.{before_blank, cut_word, from_blank, parted, without_blanks, words_of}
use Rattle.ma_text.specs.Numbers.{is_digit}
use Rattle.msh_write.specs.Text.{line_of}
use Rattle.msh_write.proofs.NumbersBack.{decimal-Writes, decimal-bytes, fits_64, is_of_number, signed-bytes, signed-some, weaker}

-- a byte past the space
abbrev pub is_plain : ℕ → Bool
is_plain byte = ltb 32 byte

abbrev pub is_word : List ℕ → Bool
is_word word = ltb 0 (length word) && list_all is_plain word

pub plain-blank : (x : ℕ) → is_plain x ≡ true → is_blank x ≡ false
plain-blank x h =
    let past : 32 < x = ltb-true 32 x h in
    or_from (eqb x 32) (eqb x 9) (ne_eqb x 32 (λ e. omega arith)) (ne_eqb x 9 (λ e. omega arith))

plain-all : (word : List ℕ) → list_all is_plain word ≡ true → All (λ x. is_blank x ≡ false) word
plain-all [] h = All-nil (λ x. is_blank x ≡ false)
plain-all (x ∷ word) h =
    let parts = and_parts (is_plain x) (list_all is_plain word) h in
    All-cons (λ x. is_blank x ≡ false) x word (plain-blank x parts.0) (plain-all word parts.1)

kept : (word : List ℕ) (others : List (List ℕ)) → is_word word ≡ true → filter (λ part. ltb 0 (length part)) (word ∷ others) ≡ word ∷ filter (λ part. ltb 0 (length part)) others
kept word others h = rw ((and_parts (ltb 0 (length word)) (list_all is_plain word) h).0) refl

-- a word alone
pub words_of-word : (word : List ℕ) → is_word word ≡ true → words_of word ≡ word ∷ []
unfolding words_of
words_of-word word h =
    ap (filter (λ part. ltb 0 (length part))) (slice_split_none is_blank word (plain-all word (and_parts (ltb 0 (length word)) (list_all is_plain word) h).1)) ∙ kept word [] h

-- a word with a space behind it
pub words_of-more : (word rest : List ℕ) → is_word word ≡ true → words_of (word ++ 32 ∷ rest) ≡ word ∷ words_of rest
unfolding words_of
words_of-more word rest h =
    ap (filter (λ part. ltb 0 (length part))) (slice_split_at is_blank word 32 rest (plain-all word (and_parts (ltb 0 (length word)) (list_all is_plain word) h).1) refl)
    ∙ kept word (slice_split is_blank rest) h

words_of-none : words_of [] ≡ []
unfolding words_of
words_of-none = refl

pub words_of-line : (words : List (List ℕ)) → list_all is_word words ≡ true → words_of (line_of words) ≡ words
words_of-line [] h = words_of-none
words_of-line (word ∷ []) h = words_of-word word (and_parts (is_word word) true h).0
words_of-line (word ∷ next ∷ words) h =
    let parts = and_parts (is_word word) (list_all is_word (next ∷ words)) h in
    words_of-more word (line_of (next ∷ words)) parts.0 ∙ ap (λ r. word ∷ r) (words_of-line (next ∷ words) parts.1)

-- ---- the first word

before_blank-word : (word rest : List ℕ) → list_all is_plain word ≡ true → before_blank (word ++ 32 ∷ rest) ≡ word
before_blank-word [] rest h = refl
before_blank-word (x ∷ word) rest h =
    let parts = and_parts (is_plain x) (list_all is_plain word) h in
    rw (plain-blank x parts.0) (ap (λ r. x ∷ r) (before_blank-word word rest parts.1))

from_blank-word : (word rest : List ℕ) → list_all is_plain word ≡ true → from_blank (word ++ 32 ∷ rest) ≡ 32 ∷ rest
from_blank-word [] rest h = refl
from_blank-word (x ∷ word) rest h =
    let parts = and_parts (is_plain x) (list_all is_plain word) h in
    rw (plain-blank x parts.0) (from_blank-word word rest parts.1)

-- a word with a space behind it is cut off
pub cut_word-word : (word rest : List ℕ) → is_word word ≡ true → cut_word (word ++ 32 ∷ rest) ≡ Some (word, 32 ∷ rest)
unfolding cut_word
cut_word-word [] rest h = absurd cc
cut_word-word (x ∷ word) rest h =
    let all : list_all is_plain (x ∷ word) ≡ true = (and_parts (ltb 0 (length (x ∷ word))) (list_all is_plain (x ∷ word)) h).1 in
    let stays : without_blanks ((x ∷ word) ++ 32 ∷ rest) ≡ (x ∷ word) ++ 32 ∷ rest = rw (plain-blank x (and_parts (is_plain x) (list_all is_plain word) all).0) refl in
    ap parted stays ∙ ap (λ w. Some (w, from_blank ((x ∷ word) ++ 32 ∷ rest))) (before_blank-word (x ∷ word) rest all) ∙ ap (λ r. Some (x ∷ word, r)) (from_blank-word (x ∷ word) rest all)

pub cut_word-space : (bytes : List ℕ) → cut_word (32 ∷ bytes) ≡ cut_word bytes
unfolding cut_word
cut_word-space bytes = refl

-- ---- the words of numbers

number-plain : (x : ℕ) → is_of_number x ≡ true → is_plain x ≡ true
number-plain x h =
    elim (cases_Bool (eqb x 45)) [
      | inl minus ↦ let is : x ≡ 45 = eqb-true x 45 minus in rw is refl
      | inr other ↦ let d : is_digit x ≡ true = rw other at h in
          let low : 48 ≤ x = leb-true 48 x (and_parts (leb 48 x) (leb x 57) d).0 in
          lt-ltb 32 x (omega arith)
    ]

pub decimal-is_word : (n : ℕ) → n < 2 ^ 64 → is_word (decimal n) ≡ true
decimal-is_word n h = and_from _ _ (lt-ltb 0 (length (decimal n)) (decimal-Writes n h).some) (weaker is_of_number is_plain number-plain (decimal n) (decimal-bytes n h))

pub signed-is_word : (z : ℤ) → fits_64 z → is_word (signed_decimal z) ≡ true
signed-is_word z h = and_from _ _ (lt-ltb 0 (length (signed_decimal z)) (signed-some z h)) (weaker is_of_number is_plain number-plain (signed_decimal z) (signed-bytes z h))
