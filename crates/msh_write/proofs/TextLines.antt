-- How lines and sections are put together from what is written piece by piece.
use Rattle.std.proofs.Common.{◌≡◌, ℕ, suc, ◌+◌, ◌<◌, ◌≤◌, true, false, eqb, All, List, [], ◌∷◌, ◌++◌, length, map, get_or, drop, flat_map, codes, decimal, refl, sym, ap, ◌∙◌, append_assoc, add-one, arith, drop-cons, length-append}
use Rattle.std.specs.Fmt.{signed_decimal}
use Rattle.std.specs.List.{enumerate_from, join_with_byte}
use Rattle.std.proofs.lemmas.Bool.{false≢true}
use Rattle.std.proofs.lemmas.Bool.Decides.{nat_tests}
use Rattle.std.proofs.lemmas.List.{append-nil, drop_all}
use Rattle.std.proofs.lemmas.List.Concat.{flat_map-append}
use Rattle.std.proofs.lemmas.List.Folds.{flat_map-map}
use Rattle.std.proofs.lemmas.List.FromFn.{length-enumerate_from}
use Rattle.std.proofs.Math.ListN.{length-map}
use Rattle.ma_geom.specs.Coordinates.{Coordinates}
use Rattle.ma_cells.specs.Tetrahedron.{Tetrahedron}
use Rattle.msh_read.specs.GroupNames.{GroupName}
use Rattle.msh_write.specs.Text.{Element, counted_section, element_line, ended, format_lines, head_lines, name_line, names_lines, node_line, nodes_of, number_among, item_lines, text_with}

-- a line's further words, each after a space
join_with_byte-cons : (word : List ℕ) (words : List (List ℕ)) → join_with_byte 32 (word ∷ words) ≡ word ++ flat_map (λ w. 32 ∷ w) words
join_with_byte-cons word [] = sym (append-nil word)
join_with_byte-cons word (next ∷ words) = ap (λ r. word ++ 32 ∷ r) (join_with_byte-cons next words)

six_pieces : (a n k p q r e : List ℕ) → (((((a ++ n) ++ k) ++ p) ++ q) ++ r) ++ e ≡ a ++ ((n ++ (k ++ (p ++ (q ++ r)))) ++ e)
six_pieces a n k p q r e = simp append_assoc

-- an element's line, written piece by piece
pub element_line-written : (nodes : List Coordinates) (number : ℕ) (e : Element) (count : ℕ) (a b c d f g : List ℕ) → length e.tags ≡ count → b ≡ a ++ decimal number
    → c ≡ b ++ 32 ∷ decimal e.kind → d ≡ c ++ 32 ∷ decimal count → f ≡ d ++ flat_map (λ tag. 32 ∷ signed_decimal tag) e.tags
    → g ≡ f ++ flat_map (λ p. 32 ∷ decimal (number_among nodes p)) e.corners
    → g ++ 10 ∷ [] ≡ a ++ (element_line nodes number e ++ 10 ∷ [])
element_line-written nodes number e count a b c d f g counted first kind many tags corners =
    let tag_words : List (List ℕ) = map signed_decimal e.tags in
    let node_words : List (List ℕ) = map (λ p. decimal (number_among nodes p)) e.corners in
    rw (
      corners,
      tags,
      many,
      kind,
      first,
      ← counted,
      join_with_byte-cons (decimal number) (decimal e.kind ∷ decimal (length e.tags) ∷ (tag_words ++ node_words)),
      flat_map-append (λ w. 32 ∷ w) tag_words node_words,
      flat_map-map (λ w. 32 ∷ w) signed_decimal e.tags,
      flat_map-map (λ w. 32 ∷ w) (λ p. decimal (number_among nodes p)) e.corners,
    )
    (six_pieces a (decimal number) (32 ∷ decimal e.kind) (32 ∷ decimal (length e.tags)) (flat_map (λ tag. 32 ∷ signed_decimal tag) e.tags) (flat_map (λ p. 32 ∷ decimal (number_among nodes p)) e.corners) (10 ∷ []))

-- the lines of the items from place i on
abbrev pub lines_from : {X : Type 0} → (ℕ → X → List ℕ) → List X → ℕ → List (List ℕ)
lines_from line items i = map (λ e. line e.0 e.1) (enumerate_from (i + 1) (drop i items))

lines-more : {X : Type 0} (line : ℕ → X → List ℕ) (items : List X) (i : ℕ) (x : X) → i < length items → x ≡ get_or items i x
    → ended (lines_from line items i) ≡ (line (i + 1) x ++ 10 ∷ []) ++ ended (lines_from line items (i + 1))
unfolding ended
lines-more line items i x h is = rw (drop-cons items i x, ← is, add-one i) refl

-- one more line is written
pub lines-step : {X : Type 0} (line : ℕ → X → List ℕ) (items : List X) (i : ℕ) (x : X) (before written all : List ℕ) → i < length items → x ≡ get_or items i x
    → before ++ ended (lines_from line items i) ≡ all → written ≡ before ++ (line (i + 1) x ++ 10 ∷ []) → written ++ ended (lines_from line items (i + 1)) ≡ all
lines-step line items i x before written all h is so_far e =
    rw e (append_assoc before (line (i + 1) x ++ 10 ∷ []) (ended (lines_from line items (i + 1))) ∙ sym (ap (λ r. before ++ r) (lines-more line items i x h is)) ∙ so_far)

-- all lines are written
pub lines-end : {X : Type 0} (line : ℕ → X → List ℕ) (items : List X) (i : ℕ) (written all : List ℕ) → length items ≤ i
    → written ++ ended (lines_from line items i) ≡ all → written ≡ all
unfolding ended
lines-end line items i written all h so_far = sym (append-nil written) ∙ rw (drop_all i items h) at so_far

pub length-item_lines : {X : Type 0} (line : ℕ → X → List ℕ) (items : List X) → length (item_lines line items) ≡ length items
length-item_lines line items = simp (length-map, length-enumerate_from)

not_none : (n : ℕ) → eqb (suc n) 0 ≡ true → ⊥
not_none n h = grind (arith, nat_tests)

-- no items make no lines
pub no-lines : {X : Type 0} (line : ℕ → X → List ℕ) (items : List X) (a : List ℕ) → eqb (length items) 0 ≡ true → a ≡ a ++ ended (item_lines line items)
unfolding ended
no-lines line [] a none = sym (append-nil a)
no-lines line (x ∷ xs) a none = absurd (not_none (length xs) none)

lines-alike : {X : Type 0} (line other : ℕ → X → List ℕ) (P : X → Type 0) → ((n : ℕ) (x : X) → P x → line n x ≡ other n x) → (n : ℕ) (xs : List X) → All P xs
    → map (λ e. line e.0 e.1) (enumerate_from n xs) ≡ map (λ e. other e.0 e.1) (enumerate_from n xs)
lines-alike line other P same n [] h = refl
lines-alike line other P same n (x ∷ xs) h =
    ap (λ l. l ∷ map (λ e. line e.0 e.1) (enumerate_from (n + 1) xs)) (same n x (h 0 x (omega arith)))
    ∙ ap (λ r. other n x ∷ r) (lines-alike line other P same (n + 1) xs (λ k d below. h (suc k) d (omega arith)))

-- items whose lines are the same however they are made
pub numbered-alike : {X : Type 0} (line other : ℕ → X → List ℕ) (P : X → Type 0) → ((n : ℕ) (x : X) → P x → line n x ≡ other n x) → (items : List X) → All P items → item_lines line items ≡ item_lines other items
numbered-alike line other P same items h = lines-alike line other P same 1 items h

five_pieces : (a h n f b e : List ℕ) → ((((a ++ h) ++ n) ++ f) ++ b) ++ e ≡ a ++ (h ++ ((n ++ f) ++ (b ++ e)))
five_pieces a h n f b e = simp append_assoc

ended-push : (lines : List (List ℕ)) (line : List ℕ) → ended (lines ++ line ∷ []) ≡ ended lines ++ (line ++ 10 ∷ [])
unfolding ended
ended-push lines line = flat_map-append (λ l. l ++ 10 ∷ []) lines (line ∷ []) ∙ ap (λ r. ended lines ++ r) (append-nil (line ++ 10 ∷ []))

-- a section, written piece by piece
pub section-written : (name : List ℕ) (lines : List (List ℕ)) (count : ℕ) (a b c d e : List ℕ) → length lines ≡ count → b ≡ a ++ ((codes "$" ++ name) ++ 10 ∷ [])
    → c ≡ b ++ decimal count → d ≡ c ++ 10 ∷ [] → e ≡ d ++ ended lines
    → e ++ ((codes "$End" ++ name) ++ 10 ∷ []) ≡ a ++ ended (counted_section name lines)
unfolding ended
section-written name lines count a b c d e counted header number feed body =
    let header_line : List ℕ = (codes "$" ++ name) ++ 10 ∷ [] in
    rw (body, feed, number, header, ← counted)
    (five_pieces a header_line (decimal (length lines)) (10 ∷ []) (ended lines) ((codes "$End" ++ name) ++ 10 ∷ [])
    ∙ ap (λ r. a ++ (header_line ++ ((decimal (length lines) ++ 10 ∷ []) ++ r))) (sym (ended-push lines (codes "$End" ++ name))))

-- lines behind others
pub ended-append : (lines more : List (List ℕ)) → ended (lines ++ more) ≡ ended lines ++ ended more
unfolding ended
ended-append lines more = flat_map-append (λ l. l ++ 10 ∷ []) lines more

-- lines that are made of items one by one
pub ended-map : {X : Type 0} (line : X → List ℕ) (items : List X) → flat_map (λ x. line x ++ 10 ∷ []) items ≡ ended (map line items)
unfolding ended
ended-map line items = sym (flat_map-map (λ l. l ++ 10 ∷ []) line items)

-- items of two kinds that are numbered through
numbered-more : {X Z : Type 0} (line : ℕ → Z → List ℕ) (f : X → Z) (n : ℕ) (xs : List X) (zs : List Z)
    → map (λ e. line e.0 e.1) (enumerate_from n (map f xs ++ zs)) ≡ map (λ e. line e.0 (f e.1)) (enumerate_from n xs) ++ map (λ e. line e.0 e.1) (enumerate_from (n + length xs) zs)
numbered-more line f n [] zs = let none : n ≡ n + 0 = omega arith in ap (λ k. map (λ e. line e.0 e.1) (enumerate_from k zs)) none
numbered-more line f n (x ∷ xs) zs =
    let next : (n + 1) + length xs ≡ n + suc (length xs) = omega arith in
    ap (λ r. line n (f x) ∷ r) (numbered-more line f (n + 1) xs zs ∙ ap (λ k. map (λ e. line e.0 (f e.1)) (enumerate_from (n + 1) xs) ++ map (λ e. line e.0 e.1) (enumerate_from k zs)) next)

numbered-later : {Y Z : Type 0} (line : ℕ → Z → List ℕ) (g : Y → Z) (k n : ℕ) (ys : List Y)
    → map (λ e. line e.0 e.1) (enumerate_from (k + n) (map g ys)) ≡ map (λ e. line (k + e.0) (g e.1)) (enumerate_from n ys)
numbered-later line g k n [] = refl
numbered-later line g k n (y ∷ ys) =
    let next : (k + n) + 1 ≡ k + (n + 1) = omega arith in
    ap (λ r. line (k + n) (g y) ∷ r) (ap (λ m. map (λ e. line e.0 e.1) (enumerate_from m (map g ys))) next ∙ numbered-later line g k (n + 1) ys)

pub item_lines-both : {X Y Z : Type 0} (line : ℕ → Z → List ℕ) (f : X → Z) (g : Y → Z) (xs : List X) (ys : List Y)
    → item_lines line (map f xs ++ map g ys) ≡ item_lines (λ n x. line n (f x)) xs ++ item_lines (λ n y. line (length xs + n) (g y)) ys
item_lines-both line f g xs ys =
    let first : 1 + length xs ≡ length xs + 1 = omega arith in
    numbered-more line f 1 xs (map g ys)
    ∙ ap (λ k. item_lines (λ n x. line n (f x)) xs ++ map (λ e. line e.0 e.1) (enumerate_from k (map g ys))) first
    ∙ ap (λ r. item_lines (λ n x. line n (f x)) xs ++ r) (numbered-later line g (length xs) 1 ys)

pub both_lengths : {X Y Z : Type 0} (f : X → Z) (g : Y → Z) (xs : List X) (ys : List Y) → length (map f xs ++ map g ys) ≡ length xs + length ys
both_lengths f g xs ys = simp (length-append, length-map)

-- the elements' section, written piece by piece
pub elements-written : {X Y : Type 0} (nodes : List Coordinates) (f : X → Element) (g : Y → Element) (xs : List X) (ys : List Y) (count before : ℕ) (a b c d e h : List ℕ)
    → length xs + length ys ≡ count → before ≡ length xs → b ≡ a ++ ((codes "$" ++ codes "Elements") ++ 10 ∷ []) → c ≡ b ++ decimal count → d ≡ c ++ 10 ∷ []
    → e ≡ d ++ ended (item_lines (λ n x. element_line nodes n (f x)) xs) → h ≡ e ++ ended (item_lines (λ n y. element_line nodes (before + n) (g y)) ys)
    → h ++ ((codes "$End" ++ codes "Elements") ++ 10 ∷ []) ≡ a ++ ended (counted_section (codes "Elements") (item_lines (element_line nodes) (map f xs ++ map g ys)))
elements-written nodes f g xs ys count before a b c d e h counted behind header number feed first second =
    let line : ℕ → Element → List ℕ = element_line nodes in
    let one : List (List ℕ) = item_lines (λ n x. line n (f x)) xs in
    let two : List (List ℕ) = item_lines (λ n y. line (length xs + n) (g y)) ys in
    let all : length (item_lines line (map f xs ++ map g ys)) ≡ count = length-item_lines line (map f xs ++ map g ys) ∙ both_lengths f g xs ys ∙ counted in
    let body : h ≡ d ++ ended (item_lines line (map f xs ++ map g ys)) =
    rw behind at second ∙ ap (λ r. r ++ ended two) first ∙ append_assoc d (ended one) (ended two) ∙ ap (λ r. d ++ r) (sym (ended-append one two) ∙ ap ended (sym (item_lines-both line f g xs ys))) in
    section-written (codes "Elements") (item_lines line (map f xs ++ map g ys)) count a b c d h all header number feed body

-- where there are no names their section is left out
pub no-names : (names : List GroupName) (a : List ℕ) → eqb (length names) 0 ≡ true → a ≡ a ++ ended (names_lines names)
unfolding ended
no-names [] a none = sym (append-nil a)
no-names (name ∷ names) a none = absurd (not_none (length names) none)

pub some-names : (names : List GroupName) → eqb (length names) 0 ≡ false → counted_section (codes "PhysicalNames") (map name_line names) ≡ names_lines names
some-names [] some = absurd (false≢true (sym some))
some-names (name ∷ names) some = refl

-- the text up to the elements, written section by section
pub head-written : (names : List GroupName) (nodes : List Coordinates) (a b c d : List ℕ) → a ≡ [] → b ≡ a ++ flat_map (λ line. line ++ 10 ∷ []) format_lines → c ≡ b ++ ended (names_lines names)
    → d ≡ c ++ ended (counted_section (codes "Nodes") (item_lines node_line nodes)) → d ≡ ended (head_lines names nodes)
unfolding ended
head-written names nodes a b c d start format named listed =
    let nodes_part : List (List ℕ) = counted_section (codes "Nodes") (item_lines node_line nodes) in
    listed ∙ ap (λ r. r ++ ended nodes_part) (named ∙ ap (λ r. r ++ ended (names_lines names)) (format ∙ ap (λ r. r ++ ended format_lines) start) ∙ sym (ended-append format_lines (names_lines names)))
    ∙ sym (ended-append (format_lines ++ names_lines names) nodes_part)

-- the whole text
pub text-written : (names : List GroupName) (tets : List Tetrahedron) (elements items : List Element) (first second : List Coordinates) (b d : List ℕ)
    → first ≡ nodes_of tets → second ≡ nodes_of tets → items ≡ elements → b ≡ ended (head_lines names first)
    → d ≡ b ++ ended (counted_section (codes "Elements") (item_lines (element_line second) items)) → d ≡ text_with names tets elements
unfolding text_with
text-written names tets elements items first second b d first_is second_is items_is head rest =
    let elements_part : List (List ℕ) = counted_section (codes "Elements") (item_lines (element_line (nodes_of tets)) elements) in
    rest
    ∙ ap (λ nodes. b ++ ended (counted_section (codes "Elements") (item_lines (element_line nodes) items))) second_is
    ∙ ap (λ es. b ++ ended (counted_section (codes "Elements") (item_lines (element_line (nodes_of tets)) es))) items_is
    ∙ ap (λ r. r ++ ended elements_part) (head ∙ ap (λ nodes. ended (head_lines names nodes)) first_is)
    ∙ sym (ended-append (head_lines names (nodes_of tets)) elements_part)
