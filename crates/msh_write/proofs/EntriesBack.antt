-- The lines of nodes and of names are read as what they tell.
use Rattle.std.proofs.Common.{◌≡◌, ℕ, ◌+◌, ◌^◌, ◌<◌, ◌≤◌, Bool, true, false, not, leb, ◌&&◌, List, [], ◌∷◌, ◌++◌, Some, refl, ap, ◌∙◌, arith, ℤ, pos, negsuc, decimal}
use Rattle.std.specs.Prelude.{Ok, unsigned_abs}
use Rattle.std.specs.Fmt.{signed_decimal}
use Rattle.std.specs.List.{after_first, list_all}
use Rattle.std.proofs.lemmas.Bool.{and_from, and_parts, leb-true, lt-ltb}
use Rattle.ma_geom.specs.Coordinates.{Coordinates, limit}
use Rattle.ma_text.specs.Words.{words_of}
use Rattle.ma_text.proofs.LineCuts.{is_feed}
use Rattle.msh_read.specs.GroupNames.{GroupName, has_dimension}
use Rattle.msh_read.specs.Lines.{closes, is_tag, number_in_word}
use Rattle.msh_read.specs.NameLines.{cut_at_quote, is_quote, name_of, number_in_front, quoted_text}
use Rattle.msh_read.specs.NodeLines.{coordinate_of, node_of, place_in_words}
use Rattle.msh_write.specs.Text.{name_line, node_line}
use Rattle.msh_write.proofs.ElementsBack.{is_number-pos, number_of-decimal, number_of-signed, tag-fits}
use Rattle.msh_write.proofs.LinesBack.{after-at, before-at, is_line, is_line-line, is_line-quoted, position-at}
use Rattle.msh_write.proofs.NodesBack.{number-fresh, numbers_from}
use Rattle.msh_write.proofs.NumbersBack.{fits_64, whole_of-signed}
use Rattle.msh_write.proofs.WordsBack.{cut_word-space, cut_word-word, decimal-is_word, is_word, signed-is_word, words_of-line, words_of-more}

-- ---- nodes

abbrev is_near_zero : ℤ → Bool
is_near_zero z = leb (unsigned_abs z) limit

-- whether each coordinate is in range
abbrev pub is_near_place : Coordinates → Bool
is_near_place p = is_near_zero p.x && (is_near_zero p.y && is_near_zero p.z)

near-fits : (z : ℤ) → is_near_zero z ≡ true → fits_64 z
near-fits (pos n) h = let small : n ≤ limit = leb-true n limit h in omega arith
near-fits (negsuc n) h = let small : unsigned_abs (negsuc n) ≤ limit = leb-true (unsigned_abs (negsuc n)) limit h in omega arith

coordinate : (z : ℤ) → is_near_zero z ≡ true → coordinate_of (signed_decimal z) ≡ Ok z
unfolding coordinate_of
coordinate z h = rw (whole_of-signed z (near-fits z h), h) refl

module _ (number : ℕ) (p : Coordinates) (low : 1 ≤ number) (high : number ≤ 2147483647) (near : is_near_place p ≡ true) where
  x_near : is_near_zero p.x ≡ true
  x_near = (and_parts (is_near_zero p.x) (is_near_zero p.y && is_near_zero p.z) near).0

  y_near : is_near_zero p.y ≡ true
  y_near = (and_parts (is_near_zero p.y) (is_near_zero p.z) (and_parts (is_near_zero p.x) (is_near_zero p.y && is_near_zero p.z) near).1).0

  z_near : is_near_zero p.z ≡ true
  z_near = (and_parts (is_near_zero p.y) (is_near_zero p.z) (and_parts (is_near_zero p.x) (is_near_zero p.y && is_near_zero p.z) near).1).1

  node_words : list_all is_word (decimal number ∷ signed_decimal p.x ∷ signed_decimal p.y ∷ signed_decimal p.z ∷ []) ≡ true
  node_words =
      and_from _ _ (decimal-is_word number (omega arith))
      (and_from _ _ (signed-is_word p.x (near-fits p.x x_near)) (and_from _ _ (signed-is_word p.y (near-fits p.y y_near)) (and_from _ _ (signed-is_word p.z (near-fits p.z z_near)) refl)))

  pub node-is_line : is_line (node_line number p) ≡ true
  node-is_line = is_line-line (decimal number) (signed_decimal p.x ∷ signed_decimal p.y ∷ signed_decimal p.z ∷ []) node_words

  words : words_of (node_line number p) ≡ decimal number ∷ signed_decimal p.x ∷ signed_decimal p.y ∷ signed_decimal p.z ∷ []
  words = words_of-line (decimal number ∷ signed_decimal p.x ∷ signed_decimal p.y ∷ signed_decimal p.z ∷ []) node_words

  pub node-closes : (name : List ℕ) → closes name (node_line number p) ≡ false
  unfolding closes
  node-closes name = rw words refl

  place : place_in_words (signed_decimal p.x) (signed_decimal p.y) (signed_decimal p.z) ≡ Ok p
  unfolding place_in_words
  place = rw (coordinate p.x x_near, coordinate p.y y_near, coordinate p.z z_near) refl

  -- the next number hasn't been used
  pub node-read : (before : ℕ) → 1 + before ≤ number → node_of (numbers_from 1 before) (node_line number p) ≡ Ok (pos number, p)
  unfolding node_of
  node-read before next =
      rw (words, number_of-decimal number (omega arith), is_number-pos number low high, number-fresh 1 before number next, place) refl

-- ---- names

-- whether a name can be read
abbrev pub is_readable : GroupName → Bool
is_readable name = has_dimension name && (is_tag name.number && (list_all (λ b. not (is_quote b)) name.text && list_all (λ b. not (is_feed b)) name.text))

cuts_at_quote : (before rest : List ℕ) → list_all (λ b. not (is_quote b)) before ≡ true → cut_at_quote (before ++ 34 ∷ rest) ≡ Some (before, rest)
cuts_at_quote before rest h =
    rw (lt-ltb _ _ (position-at is_quote 34 refl before rest h)) (ap (λ b. Some (b, after_first is_quote (before ++ 34 ∷ rest))) (before-at is_quote 34 refl before rest h) ∙ ap (λ r. Some (before, r)) (after-at is_quote 34 refl before rest h))

quoted : (text : List ℕ) → list_all (λ b. not (is_quote b)) text ≡ true → quoted_text (32 ∷ 34 ∷ (text ++ 34 ∷ [])) ≡ Ok text
unfolding quoted_text
quoted text h = rw (cuts_at_quote (32 ∷ []) (text ++ 34 ∷ []) refl, cuts_at_quote text [] h) refl

in_front : (word rest : List ℕ) (z : ℤ) → is_word word ≡ true → number_in_word word ≡ Ok z → number_in_front (word ++ 32 ∷ rest) ≡ Ok (z, 32 ∷ rest)
unfolding number_in_front
in_front word rest z h e = rw (cut_word-word word rest h, e) refl

space_in_front : (bytes : List ℕ) → number_in_front (32 ∷ bytes) ≡ number_in_front bytes
unfolding number_in_front
space_in_front bytes = rw (cut_word-space bytes) refl

module _ (name : GroupName) (ok : is_readable name ≡ true) where
  dimension_ok : has_dimension name ≡ true
  dimension_ok = (and_parts (has_dimension name) _ ok).0

  number_ok : is_tag name.number ≡ true
  number_ok = (and_parts (is_tag name.number) _ (and_parts (has_dimension name) _ ok).1).0

  quotes_ok : list_all (λ b. not (is_quote b)) name.text ≡ true
  quotes_ok = (and_parts (list_all (λ b. not (is_quote b)) name.text) _ (and_parts (is_tag name.number) _ (and_parts (has_dimension name) _ ok).1).1).0

  feeds_ok : list_all (λ b. not (is_feed b)) name.text ≡ true
  feeds_ok = (and_parts (list_all (λ b. not (is_quote b)) name.text) _ (and_parts (is_tag name.number) _ (and_parts (has_dimension name) _ ok).1).1).1

  few : name.dimension < 2 ^ 63
  few = let small : name.dimension ≤ 3 = leb-true name.dimension 3 dimension_ok in omega arith

  first_word : is_word (decimal name.dimension) ≡ true
  first_word = let small = few in decimal-is_word name.dimension (omega arith)

  second_word : is_word (signed_decimal name.number) ≡ true
  second_word = signed-is_word name.number (tag-fits name.number number_ok)

  pub name-is_line : is_line (name_line name) ≡ true
  name-is_line = is_line-quoted (decimal name.dimension) (signed_decimal name.number) name.text first_word second_word feeds_ok

  pub name-closes : (header : List ℕ) → closes header (name_line name) ≡ false
  unfolding closes
  name-closes header =
      rw (words_of-more (decimal name.dimension) (signed_decimal name.number ++ 32 ∷ 34 ∷ (name.text ++ 34 ∷ [])) first_word, words_of-more (signed_decimal name.number) (34 ∷ (name.text ++ 34 ∷ [])) second_word) refl

  pub name-read : name_of (name_line name) ≡ Ok name
  unfolding name_of
  name-read =
      rw (
        in_front (decimal name.dimension) (signed_decimal name.number ++ 32 ∷ 34 ∷ (name.text ++ 34 ∷ [])) (pos name.dimension) first_word (number_of-decimal name.dimension few),
        space_in_front (signed_decimal name.number ++ 32 ∷ 34 ∷ (name.text ++ 34 ∷ [])),
        in_front (signed_decimal name.number) (34 ∷ (name.text ++ 34 ∷ [])) name.number second_word (number_of-signed name.number (tag-fits name.number number_ok)),
        quoted name.text quotes_ok,
        dimension_ok,
        number_ok,
      )
      refl
