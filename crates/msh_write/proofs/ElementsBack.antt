-- The lines of elements are read as what they tell.
use Rattle.std.proofs.Common.{◌≡◌, ℕ, ◌+◌, ◌-◌, ◌^◌, ◌<◌, ◌≤◌, true, false, eqb, List, [], ◌∷◌, length, map, Some, refl, arith, ℤ, pos, negsuc, decimal}
use Rattle.std.specs.Prelude.{Ok}
use Rattle.std.specs.Fmt.{signed_decimal}
use Rattle.std.specs.List.{list_all}
use Rattle.std.proofs.lemmas.Bool.{and_from, and_parts, eq-eqb, le-leb, ltb-true}
use Rattle.std.proofs.lemmas.List.{length-map}
use Rattle.ma_geom.specs.Coordinates.{Coordinates, place_cmp}
use Rattle.ma_cells.specs.Ascending.{are_distinct, has}
use Rattle.msh_read.specs.ElementLines.{element_at, element_by, element_of, element_with, nodes_of_kind, numbers_of, positions_of}
use Rattle.msh_read.specs.Lines.{closes, is_number, is_tag, number_in_word}
use Rattle.msh_read.specs.Trying.{each}
use Rattle.ma_text.specs.Words.{words_of}
use Rattle.msh_write.specs.Text.{element_line, number_among}
use Rattle.msh_write.proofs.LinesBack.{is_line, is_line-line}
use Rattle.msh_write.proofs.NodesBack.{among, numbers-different, numbers_from, numbers_of_places, positions-found}
use Rattle.msh_write.proofs.NumbersBack.{digits_of-decimal, digits_of-signed, fits_64}
use Rattle.msh_write.proofs.WordsBack.{decimal-is_word, is_word, signed-is_word, words_of-line}

pub tag-fits : (z : ℤ) → is_tag z ≡ true → fits_64 z
tag-fits (pos n) h = let small : n < 2147483648 = ltb-true n 2147483648 h in omega arith
tag-fits (negsuc n) h = let small : n < 2147483648 = ltb-true n 2147483648 h in omega arith

pub number_of-decimal : (n : ℕ) → n < 2 ^ 63 → number_in_word (decimal n) ≡ Ok (pos n)
unfolding number_in_word
number_of-decimal n h = rw (digits_of-decimal n h) refl

pub number_of-signed : (z : ℤ) → fits_64 z → number_in_word (signed_decimal z) ≡ Ok z
unfolding number_in_word
number_of-signed z h = rw (digits_of-signed z h) refl

pub is_number-pos : (n : ℕ) → 1 ≤ n → n ≤ 2147483647 → is_number (pos n) ≡ true
is_number-pos n low high = and_from _ _ (le-leb 1 n low) (le-leb n 2147483647 high)

-- ---- elements

module _ (nodes : List Coordinates) (few : length nodes ≤ 2147483647) where
  corners-words : (corners : List Coordinates) → list_all (λ p. has place_cmp p nodes) corners ≡ true → list_all is_word (map (λ p. decimal (number_among nodes p)) corners) ≡ true
  corners-words [] all = refl
  corners-words (p ∷ corners) all =
      let parts = and_parts (has place_cmp p nodes) (list_all (λ q. has place_cmp q nodes) corners) all in
      let at = among nodes p parts.0 in
      and_from _ _ (decimal-is_word (number_among nodes p) (omega (arith, at.high))) (corners-words corners parts.1)

  corners-numbers : (corners : List Coordinates) → list_all (λ p. has place_cmp p nodes) corners ≡ true → each number_in_word (map (λ p. decimal (number_among nodes p)) corners) ≡ Ok (numbers_of_places nodes corners)
  corners-numbers [] all = refl
  corners-numbers (p ∷ corners) all =
      let parts = and_parts (has place_cmp p nodes) (list_all (λ q. has place_cmp q nodes) corners) all in
      let at = among nodes p parts.0 in
      rw (number_of-decimal (number_among nodes p) (omega (arith, at.high)), corners-numbers corners parts.1) refl

  -- an element with the tags phys and elem alone
  module _ (number kind : ℕ) (phys elem : ℤ) (corners : List Coordinates) (low : 1 ≤ number) (high : number ≤ 2147483647) (small : kind < 2 ^ 63) (phys_fits : is_tag phys ≡ true) (elem_fits : is_tag elem ≡ true)
      (there : list_all (λ p. has place_cmp p nodes) corners ≡ true) where
    are_words : list_all is_word (decimal number ∷ decimal kind ∷ decimal 2 ∷ signed_decimal phys ∷ signed_decimal elem ∷ map (λ p. decimal (number_among nodes p)) corners) ≡ true
    are_words =
        and_from _ _ (decimal-is_word number (omega arith)) (and_from _ _ (decimal-is_word kind (omega arith)) (and_from _ _ (decimal-is_word 2 (omega arith))
        (and_from _ _ (signed-is_word phys (tag-fits phys phys_fits)) (and_from _ _ (signed-is_word elem (tag-fits elem elem_fits)) (corners-words corners there)))))

    pub element-is_line : is_line (element_line nodes number (record { kind = kind; tags = phys ∷ elem ∷ []; corners = corners })) ≡ true
    element-is_line =
        is_line-line (decimal number) (decimal kind ∷ decimal 2 ∷ signed_decimal phys ∷ signed_decimal elem ∷ map (λ p. decimal (number_among nodes p)) corners) are_words

    pub element-words : words_of (element_line nodes number (record { kind = kind; tags = phys ∷ elem ∷ []; corners = corners }))
        ≡ decimal number ∷ decimal kind ∷ decimal 2 ∷ signed_decimal phys ∷ signed_decimal elem ∷ map (λ p. decimal (number_among nodes p)) corners
    element-words = words_of-line (decimal number ∷ decimal kind ∷ decimal 2 ∷ signed_decimal phys ∷ signed_decimal elem ∷ map (λ p. decimal (number_among nodes p)) corners) are_words

    -- it isn't the end of a section
    pub element-closes : (name : List ℕ) → closes name (element_line nodes number (record { kind = kind; tags = phys ∷ elem ∷ []; corners = corners })) ≡ false
    unfolding closes
    element-closes name = rw element-words refl

    element-numbers : numbers_of (element_line nodes number (record { kind = kind; tags = phys ∷ elem ∷ []; corners = corners }))
        ≡ Ok (pos number ∷ pos kind ∷ pos 2 ∷ phys ∷ elem ∷ numbers_of_places nodes corners)
    unfolding numbers_of
    element-numbers =
        rw (
          element-words,
          number_of-decimal number (omega arith),
          number_of-decimal kind small,
          number_of-decimal 2 (omega arith),
          number_of-signed phys (tag-fits phys phys_fits),
          number_of-signed elem (tag-fits elem elem_fits),
          corners-numbers corners there,
        )
        refl

    module _ (known_kind : nodes_of_kind (pos kind) ≡ Some (length corners)) (apart : are_distinct place_cmp corners ≡ true) where
      positions : positions_of (numbers_from 1 (length nodes)) (numbers_of_places nodes corners) ≡ Ok (map (λ p. number_among nodes p - 1) corners)
      unfolding positions_of
      positions = rw (positions-found nodes corners there, numbers-different nodes corners there apart) refl

      by_tags : element_by (numbers_from 1 (length nodes)) (phys ∷ elem ∷ []) (numbers_of_places nodes corners) ≡ Ok (element_with (phys ∷ elem ∷ []) (map (λ p. number_among nodes p - 1) corners))
      unfolding element_by
      by_tags = rw (phys_fits, elem_fits, positions) refl

      by_count : element_at (numbers_from 1 (length nodes)) (pos kind) 2 (phys ∷ elem ∷ numbers_of_places nodes corners) ≡ Ok (element_with (phys ∷ elem ∷ []) (map (λ p. number_among nodes p - 1) corners))
      unfolding element_at
      by_count =
          let long : eqb (length (phys ∷ elem ∷ numbers_of_places nodes corners)) (2 + length corners) ≡ true = eq-eqb _ _ (omega (arith, length-map corners (λ p. pos (number_among nodes p)))) in
          rw (known_kind, long) by_tags

      pub element-read : element_of (numbers_from 1 (length nodes)) (element_line nodes number (record { kind = kind; tags = phys ∷ elem ∷ []; corners = corners }))
          ≡ Ok (element_with (phys ∷ elem ∷ []) (map (λ p. number_among nodes p - 1) corners))
      unfolding element_of
      element-read = rw (element-numbers, is_number-pos number low high) by_count
