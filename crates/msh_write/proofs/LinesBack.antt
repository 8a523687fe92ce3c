-- The lines of a text in which each line has a line feed behind it.
use Rattle.std.proofs.Common.{◌≡◌, ℕ, ◌+◌, ◌<◌, Bool, true, not, ltb, eqb, ◌&&◌, List, [], ◌∷◌, ◌++◌, length, refl, sym, ap, ◌∙◌, arith, append_assoc}
use Rattle.std.specs.List.{enumerate_from, list_all, before_first, after_first, position_or_len}
use Rattle.std.proofs.lemmas.Bool.{and_from, and_parts, lt-ltb, ltb-true, ne_eqb, not-true, not_from_false}
use Rattle.std.proofs.lemmas.List.{append-nil, take_rest}
use Rattle.std.proofs.lemmas.List.Folds.{list_all-append}
use Rattle.ma_text.specs.steps.LineEnds.{without_return}
use Rattle.ma_text.specs.Lines.{is_blank_line, lines_of, numbered, numbered_lines}
use Rattle.ma_text.proofs.Firsts.{after_first-no, after_first-yes, PassesFirst, before_first-no, before_first-yes, position_or_len-no, position_or_len-yes}
use Rattle.ma_text.proofs.LineCuts.{first_line, is_feed, lines_of-nil}
use Rattle.msh_write.specs.Text.{ended, line_of}
use Rattle.msh_write.proofs.WordsBack.{is_plain, is_word, plain-blank}
use Rattle.msh_write.proofs.NumbersBack.{weaker}

-- whether the last byte isn't a carriage return
abbrev pub ends_plain : List ℕ → Bool
ends_plain [] = true
ends_plain (x ∷ []) = not (eqb x 13)
ends_plain (x ∷ y ∷ rest) = ends_plain (y ∷ rest)

-- a line that stays as it is: it has no line feed, and at its end no carriage return, and isn't blank
abbrev pub is_line : List ℕ → Bool
is_line line = list_all (λ x. not (is_feed x)) line && (ends_plain line && not (is_blank_line line))

pub without_return-plain : (line : List ℕ) → ends_plain line ≡ true → without_return line ≡ line
without_return-plain [] h = refl
without_return-plain (x ∷ []) h = rw (not-true (eqb x 13) h) refl
without_return-plain (x ∷ y ∷ rest) h = ap (λ r. x ∷ r) (without_return-plain (y ∷ rest) h)

-- bytes up to the first that passes a test
module _ (p : ℕ → Bool) (y : ℕ) (yes : p y ≡ true) where
  pub position-at : (line rest : List ℕ) → list_all (λ x. not (p x)) line ≡ true → position_or_len p (line ++ y ∷ rest) < length (line ++ y ∷ rest)
  position-at [] rest h = omega (arith, position_or_len-yes p y rest yes)
  position-at (x ∷ line) rest h =
      let parts = and_parts (not (p x)) (list_all (λ z. not (p z)) line) h in
      omega (arith, position_or_len-no p x (line ++ y ∷ rest) (not-true (p x) parts.0), position-at line rest parts.1)

  pub before-at : (line rest : List ℕ) → list_all (λ x. not (p x)) line ≡ true → before_first p (line ++ y ∷ rest) ≡ line
  before-at [] rest h = before_first-yes p y rest yes
  before-at (x ∷ line) rest h =
      let parts = and_parts (not (p x)) (list_all (λ z. not (p z)) line) h in
      before_first-no p x (line ++ y ∷ rest) (not-true (p x) parts.0) ∙ ap (λ r. x ∷ r) (before-at line rest parts.1)

  pub after-at : (line rest : List ℕ) → list_all (λ x. not (p x)) line ≡ true → after_first p (line ++ y ∷ rest) ≡ rest
  after-at [] rest h = after_first-yes p y rest yes
  after-at (x ∷ line) rest h =
      let parts = and_parts (not (p x)) (list_all (λ z. not (p z)) line) h in
      after_first-no p x (line ++ y ∷ rest) (not-true (p x) parts.0) ∙ after-at line rest parts.1

lines_of-more : (line rest : List ℕ) → is_line line ≡ true → lines_of (line ++ 10 ∷ rest) ≡ line ∷ lines_of rest
lines_of-more line rest h =
    let parts = and_parts (list_all (λ x. not (is_feed x)) line) _ h in
    let passes : PassesFirst is_feed (line ++ 10 ∷ rest) (position_or_len is_feed (line ++ 10 ∷ rest)) =
    record { within = position-at is_feed 10 refl line rest parts.0; before = refl; after = take_rest (line ++ 10 ∷ rest) (position_or_len is_feed (line ++ 10 ∷ rest) + 1) } in
    let whole : line ≡ without_return (before_first is_feed (line ++ 10 ∷ rest)) =
    sym (ap without_return (before-at is_feed 10 refl line rest parts.0) ∙ without_return-plain line (and_parts (ends_plain line) _ parts.1).0) in
    first_line _ _ line passes whole ∙ ap (λ r. line ∷ lines_of r) (passes.after ∙ after-at is_feed 10 refl line rest parts.0)

pub lines_of-ended : (lines : List (List ℕ)) → list_all is_line lines ≡ true → lines_of (ended lines) ≡ lines
unfolding ended
lines_of-ended [] h = lines_of-nil
lines_of-ended (line ∷ lines) h =
    let parts = and_parts (is_line line) (list_all is_line lines) h in
    ap lines_of (append_assoc line (10 ∷ []) (ended lines)) ∙ lines_of-more line (ended lines) parts.0 ∙ ap (λ r. line ∷ r) (lines_of-ended lines parts.1)

-- no line is left out
numbered-lines : (n : ℕ) (lines : List (List ℕ)) → list_all is_line lines ≡ true → numbered n lines ≡ enumerate_from n lines
numbered-lines n [] h = refl
numbered-lines n (line ∷ lines) h =
    let parts = and_parts (is_line line) (list_all is_line lines) h in
    let filled = (and_parts (ends_plain line) (not (is_blank_line line)) (and_parts (list_all (λ x. not (is_feed x)) line) _ parts.0).1).1 in
    rw filled (ap (λ r. (n, line) ∷ r) (numbered-lines (n + 1) lines parts.1))

pub numbered_lines-ended : (lines : List (List ℕ)) → list_all is_line lines ≡ true → numbered_lines (ended lines) ≡ enumerate_from 1 lines
numbered_lines-ended lines h = ap (numbered 1) (lines_of-ended lines h) ∙ numbered-lines 1 lines h

-- ---- lines of words

-- a space or a byte past it
abbrev is_shown : ℕ → Bool
is_shown byte = ltb 31 byte

plain-shown : (x : ℕ) → is_plain x ≡ true → is_shown x ≡ true
plain-shown x h = let past : 32 < x = ltb-true 32 x h in lt-ltb 31 x (omega arith)

shown-feed : (x : ℕ) → is_shown x ≡ true → not (is_feed x) ≡ true
shown-feed x h = let past : 31 < x = ltb-true 31 x h in not_from_false (is_feed x) (ne_eqb x 10 (λ e. omega arith))

shown-ends : (line : List ℕ) → list_all is_shown line ≡ true → ends_plain line ≡ true
shown-ends [] h = refl
shown-ends (x ∷ []) h =
    let past : 31 < x = ltb-true 31 x (and_parts (is_shown x) true h).0 in
    not_from_false (eqb x 13) (ne_eqb x 13 (λ e. omega arith))
shown-ends (x ∷ y ∷ rest) h = shown-ends (y ∷ rest) (and_parts (is_shown x) (list_all is_shown (y ∷ rest)) h).1

shown-line : (words : List (List ℕ)) → list_all is_word words ≡ true → list_all is_shown (line_of words) ≡ true
shown-line [] h = refl
shown-line (word ∷ []) h = weaker is_plain is_shown plain-shown word (and_parts (ltb 0 (length word)) (list_all is_plain word) (and_parts (is_word word) true h).0).1
shown-line (word ∷ next ∷ words) h =
    let parts = and_parts (is_word word) (list_all is_word (next ∷ words)) h in
    list_all-append is_shown word (32 ∷ line_of (next ∷ words))
    ∙ and_from _ _ (weaker is_plain is_shown plain-shown word (and_parts (ltb 0 (length word)) (list_all is_plain word) parts.0).1) (shown-line (next ∷ words) parts.1)

-- what begins with a word isn't blank
word-filled : (word rest : List ℕ) → is_word word ≡ true → not (is_blank_line (word ++ rest)) ≡ true
word-filled [] rest h = absurd cc
word-filled (x ∷ word) rest h =
    let all = (and_parts (ltb 0 (length (x ∷ word))) (list_all is_plain (x ∷ word)) h).1 in
    rw (plain-blank x (and_parts (is_plain x) (list_all is_plain word) all).0) refl

line-filled : (word : List ℕ) (words : List (List ℕ)) → is_word word ≡ true → not (is_blank_line (line_of (word ∷ words))) ≡ true
line-filled word [] h = rw append-nil at (word-filled word [] h)
line-filled word (next ∷ words) h = word-filled word (32 ∷ line_of (next ∷ words)) h

pub is_line-line : (word : List ℕ) (words : List (List ℕ)) → list_all is_word (word ∷ words) ≡ true → is_line (line_of (word ∷ words)) ≡ true
is_line-line word words h =
    let shown = shown-line (word ∷ words) h in
    and_from _ _ (weaker is_shown (λ x. not (is_feed x)) shown-feed (line_of (word ∷ words)) shown)
    (and_from _ _ (shown-ends (line_of (word ∷ words)) shown) (line-filled word words (and_parts (is_word word) (list_all is_word words) h).0))

-- ---- a line that ends in a quotation mark, with any text before it

word-feed : (word : List ℕ) → is_word word ≡ true → list_all (λ x. not (is_feed x)) word ≡ true
word-feed word h = weaker is_shown (λ x. not (is_feed x)) shown-feed word (weaker is_plain is_shown plain-shown word (and_parts (ltb 0 (length word)) (list_all is_plain word) h).1)

ends-behind : (xs : List ℕ) (y : ℕ) (ys : List ℕ) → ends_plain (xs ++ y ∷ ys) ≡ ends_plain (y ∷ ys)
ends-behind [] y ys = refl
ends-behind (x ∷ []) y ys = refl
ends-behind (x ∷ z ∷ xs) y ys = ends-behind (z ∷ xs) y ys

pub is_line-quoted : (first second text : List ℕ) → is_word first ≡ true → is_word second ≡ true → list_all (λ x. not (is_feed x)) text ≡ true
    → is_line (first ++ 32 ∷ (second ++ 32 ∷ 34 ∷ (text ++ 34 ∷ []))) ≡ true
is_line-quoted first second text h k free =
    let test = λ (x : ℕ). not (is_feed x) in
    let tail : list_all test (text ++ 34 ∷ []) ≡ true = list_all-append test text (34 ∷ []) ∙ and_from _ _ free refl in
    let middle : list_all test (second ++ 32 ∷ 34 ∷ (text ++ 34 ∷ [])) ≡ true = list_all-append test second (32 ∷ 34 ∷ (text ++ 34 ∷ [])) ∙ and_from _ _ (word-feed second k) tail in
    let all : list_all test (first ++ 32 ∷ (second ++ 32 ∷ 34 ∷ (text ++ 34 ∷ []))) ≡ true =
    list_all-append test first (32 ∷ (second ++ 32 ∷ 34 ∷ (text ++ 34 ∷ []))) ∙ and_from _ _ (word-feed first h) middle in
    let end : ends_plain (first ++ 32 ∷ (second ++ 32 ∷ 34 ∷ (text ++ 34 ∷ []))) ≡ true =
    ends-behind first 32 (second ++ 32 ∷ 34 ∷ (text ++ 34 ∷ [])) ∙ ends-behind (32 ∷ second) 32 (34 ∷ (text ++ 34 ∷ [])) ∙ ends-behind (32 ∷ 34 ∷ text) 34 [] in
    and_from _ _ all (and_from _ _ end (word-filled first (32 ∷ (second ++ 32 ∷ 34 ∷ (text ++ 34 ∷ []))) h))
