-- The first word of a line, and what is left behind it.
use Rattle.std.proofs.Common.{◌≡◌, ℕ, Bool, true, false, not, ltb, eqb, suc, one-add, List, [], ◌∷◌, length, take, drop, Some, None, refl, sym, ap, ◌∙◌, arith, inl, inr, position, filter, unwrap_or}
use Rattle.std.specs.List.{position_or_len, onto_first, slice_split}
use Rattle.std.proofs.lemmas.Bool.{cases_Bool, eqb-true, lt-ltb, le-ltb, cases_lt}
use Rattle.std.proofs.lemmas.List.Sums.{prefix_len-le-length}
use Rattle.ma_text.specs.Blanks.{is_blank}
use Rattle.ma_text.specs.Words.{words_of, cut_word, without_blanks, before_blank, from_blank, parted}
use Rattle.ma_text.proofs.Firsts.{before_first-yes, before_first-no, position_or_len-no}

pub or_length : (p : ℕ → Bool) (xs : List ℕ) → unwrap_or (position p xs) (length xs) ≡ position_or_len p xs
or_length p xs =
    elim (cases_lt (position_or_len p xs) (length xs)) [
      | inl within ↦ rw (lt-ltb _ _ within) refl
      | inr past ↦ rw (le-ltb _ _ past) (omega (arith, prefix_len-le-length (λ x. not (p x)) xs))
    ]

before : (xs : List ℕ) → take (position_or_len is_blank xs) xs ≡ before_blank xs
before [] = refl
before (x ∷ xs) =
    elim (cases_Bool (is_blank x)) [
      | inl blank ↦ before_first-yes is_blank x xs blank ∙ rw blank refl
      | inr other ↦ before_first-no is_blank x xs other ∙ ap (λ l. x ∷ l) (before xs) ∙ rw other refl
    ]

from : (xs : List ℕ) → drop (position_or_len is_blank xs) xs ≡ from_blank xs
from [] = refl
from (x ∷ xs) =
    elim (cases_Bool (is_blank x)) [
      | inl blank ↦ rw blank refl
      | inr other ↦ ap (λ n. drop n (x ∷ xs)) (position_or_len-no is_blank x xs other ∙ one-add _) ∙ from xs ∙ rw other refl
    ]

-- the parts of what stands behind a first part
record Parts (xs : List ℕ) : Type 0 where
  others : List (List ℕ)
  split : slice_split is_blank xs ≡ before_blank xs ∷ others
  words : filter (λ part. ltb 0 (length part)) others ≡ words_of (from_blank xs)

parts : (xs : List ℕ) → Parts xs
unfolding words_of
parts [] = record { others = []; split = refl; words = refl }
parts (x ∷ xs) =
    elim (cases_Bool (is_blank x)) [
      | inl blank ↦ record { others = slice_split is_blank xs; split = rw blank refl; words = rw blank (rw blank refl) }
      | inr other ↦ let p = parts xs in record { others = p.others; split = rw other (ap (onto_first x) p.split); words = rw other p.words }
    ]

kept : (x : ℕ) (part : List ℕ) (others : List (List ℕ)) → filter (λ part. ltb 0 (length part)) ((x ∷ part) ∷ others) ≡ (x ∷ part) ∷ filter (λ part. ltb 0 (length part)) others
kept x part others = rw (lt-ltb 0 (length (x ∷ part)) (omega arith)) refl

word_first : (x : ℕ) (xs : List ℕ) → is_blank x ≡ false → words_of (x ∷ xs) ≡ before_blank (x ∷ xs) ∷ words_of (from_blank (x ∷ xs))
unfolding words_of
word_first x xs other = let p = parts xs in rw other (ap (λ l. filter (λ part. ltb 0 (length part)) (onto_first x l)) p.split ∙ kept x (before_blank xs) p.others ∙ ap (λ l. (x ∷ before_blank xs) ∷ l) p.words)

skips : (xs : List ℕ) → words_of (without_blanks xs) ≡ words_of xs
unfolding words_of
skips [] = refl
skips (x ∷ xs) =
    elim (cases_Bool (is_blank x)) [
      | inl blank ↦ rw blank (skips xs)
      | inr other ↦ let stays : without_blanks (x ∷ xs) ≡ x ∷ xs = rw other refl in ap words_of stays
    ]

-- no blank stands first
starts : (xs rest : List ℕ) (x : ℕ) → without_blanks xs ≡ x ∷ rest → is_blank x ≡ false
starts [] rest x e = absurd cc
starts (y ∷ xs) rest x e =
    elim (cases_Bool (is_blank y)) [
      | inl blank ↦ starts xs rest x (rw blank at e)
      | inr other ↦ let same : y ∷ xs ≡ x ∷ rest = rw other at e in let z : y ≡ x = cc in rw (sym z) other
    ]

-- What a step of cutting finds: bytes without blanks in front, cut at their first blank.
pub record Cut (bytes word behind : List ℕ) : Type 0 where
  pub cut : cut_word bytes ≡ Some (word, behind)
  pub words : words_of bytes ≡ word ∷ words_of behind

pub cuts : (bytes rest word behind : List ℕ) (n : ℕ) → rest ≡ without_blanks bytes → n ≡ position_or_len is_blank rest → word ≡ take n rest → behind ≡ drop n rest → false ≡ eqb (length word) 0 → Cut bytes word behind
unfolding cut_word
cuts bytes [] [] behind n is n_is word_is behind_is some = absurd cc
cuts bytes [] (w ∷ word) behind n is n_is word_is behind_is some = let nothing : w ∷ word ≡ [] = word_is ∙ ap (λ k. take k []) n_is in absurd cc
cuts bytes (x ∷ rest) word behind n is n_is word_is behind_is some =
    let word_is' : word ≡ before_blank (x ∷ rest) = word_is ∙ ap (λ k. take k (x ∷ rest)) n_is ∙ before (x ∷ rest) in
    let behind_is' : behind ≡ from_blank (x ∷ rest) = behind_is ∙ ap (λ k. drop k (x ∷ rest)) n_is ∙ from (x ∷ rest) in
    record {
      cut = ap parted (sym is) ∙ rw (word_is', behind_is') refl;
      words = sym (skips bytes) ∙ ap words_of (sym is) ∙ word_first x rest (starts bytes rest x (sym is)) ∙ rw (word_is', behind_is') refl;
    }

-- What it finds at the end.
pub record NoWord (bytes behind : List ℕ) : Type 0 where
  pub cut : cut_word bytes ≡ None
  pub words : words_of bytes ≡ []
  pub rest : behind ≡ []

no_words : words_of [] ≡ []
unfolding words_of
no_words = refl

pub finds_none : (bytes rest word behind : List ℕ) (n : ℕ) → rest ≡ without_blanks bytes → n ≡ position_or_len is_blank rest → word ≡ take n rest → behind ≡ drop n rest → true ≡ eqb (length word) 0 → NoWord bytes behind
unfolding cut_word
finds_none bytes [] word behind n is n_is word_is behind_is none = record {
  cut = ap parted (sym is);
  words = sym (skips bytes) ∙ ap words_of (sym is) ∙ no_words;
  rest = behind_is ∙ ap (λ k. drop k []) n_is;
}
finds_none bytes (x ∷ rest) word behind n is n_is word_is behind_is none =
    let word_is' : word ≡ before_blank (x ∷ rest) = word_is ∙ ap (λ k. take k (x ∷ rest)) n_is ∙ before (x ∷ rest) in
    let more : length word ≡ suc (length (before_blank rest)) = ap length word_is' ∙ rw (starts bytes rest x (sym is)) refl in
    absurd (omega (arith, eqb-true _ _ (sym none), more))
