-- The line that ends a section is neither a count nor a format.
use Rattle.std.proofs.Common.{◌≡◌, ℕ, true, false, eqb, ltb, List, [], ◌∷◌, length, codes, refl, inl, inr}
use Rattle.std.specs.Prelude.{Err}
use Rattle.std.specs.List.{list_all}
use Rattle.std.proofs.lemmas.Bool.{and_parts, cases_Bool, eqb-true}
use Rattle.ma_text.specs.Numbers.{are_digits, digits_of, is_digit, written}
use Rattle.ma_text.specs.Words.{words_of}
use Rattle.msh_read.specs.declared.fault.MshKind.TheVariants.{BadLine}
use Rattle.msh_read.specs.Lines.{begins_with, closes, count_of, format_of, is_end, number_in_word, one_of}

-- no number begins with a '$'
dollar : (rest : List ℕ) → number_in_word (36 ∷ rest) ≡ Err BadLine
unfolding number_in_word digits_of written
dollar rest =
    elim (cases_Bool (are_digits (36 ∷ rest))) [
      | inl digits ↦ absurd (let all : false ≡ true = (and_parts (ltb 0 (length (36 ∷ rest))) (list_all is_digit (36 ∷ rest)) digits).1 in cc)
      | inr other ↦ rw other refl
    ]

no_number : (word : List ℕ) → begins_with (codes "$End") word ≡ true → number_in_word word ≡ Err BadLine
no_number [] h = absurd cc
no_number (first ∷ rest) h =
    let is : first ≡ 36 = eqb-true first 36 (and_parts (eqb first 36) _ h).0 in
    rw is (dollar rest)

-- its only word begins with '$End'
end_word : (name : List ℕ) (words : List (List ℕ)) → is_end name (one_of words) ≡ true → (word : List ℕ) × (words ≡ word ∷ []) × (begins_with (codes "$End") word ≡ true)
end_word name [] h = absurd cc
end_word name (word ∷ []) h = (word, refl, (and_parts (begins_with (codes "$End") word) _ h).0)
end_word name (word ∷ next ∷ words) h = absurd cc

module _ (name : List ℕ) (line : List ℕ) (h : closes name line ≡ true) where
  only_word : (word : List ℕ) × (words_of line ≡ word ∷ []) × (begins_with (codes "$End") word ≡ true)
  unfolding closes
  only_word = end_word name (words_of line) h

  pub format_of-end : format_of line ≡ Err BadLine
  unfolding format_of
  format_of-end = rw (only_word.1) refl

  pub count_of-end : count_of line ≡ Err BadLine
  unfolding count_of
  count_of-end = rw (only_word.1, no_number only_word.0 only_word.2) refl
