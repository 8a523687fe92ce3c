-- Nodes that are numbered from 1 are found by their numbers.
use Rattle.std.proofs.Common.{◌≡◌, ℕ, zero, suc, ◌+◌, ◌-◌, ◌<◌, ◌≤◌, Bool, true, false, not, cond, ◌&&◌, ◌||◌, List, [], ◌∷◌, ◌++◌, length, map, get_or, refl, sym, ap, subst, ◌∙◌, arith, inl, inr, ℤ, pos, int_lt}
use Rattle.std.specs.Prelude.{Ok}
use Rattle.std.specs.Cmp.{Equal-is, int_cmp_total, tied_itself}
use Rattle.std.specs.FinMap.{int_cmp-IsAntisymmetric}
use Rattle.std.specs.List.{list_all, list_any, position_or_len}
use Rattle.std.specs.Ordering.{eq_by_cmp, int_cmp, int_eq, is_eq}
use Rattle.std.proofs.lemmas.Bool.{and_from, and_parts, cases_Bool, eq-eqb, false_from_ne_true, lt-ltb, not-true, not_from_false, or_from, or_parts}
use Rattle.ma_geom.specs.Coordinates.{Coordinates, place_cmp}
use Rattle.ma_geom.specs.Volume.{vol6}
use Rattle.ma_geom.proofs.PlaceOrder.{place_cmp-IsAntisymmetric, place_cmp_total}
use Rattle.ma_cells.specs.Ascending.{are_ascending, are_distinct, ascending_of, has}
use Rattle.ma_cells.proofs.Ascents.{is-ascending_of, length-ascending_of, strict_from_ascending}
use Rattle.msh_read.specs.ElementLines.{are_different, position_of}
use Rattle.msh_read.specs.NodeLines.{is_used}
use Rattle.msh_read.specs.Trying.{each}
use Rattle.msh_write.specs.Text.{number_among, oriented}

-- so many numbers, from the first on
abbrev pub numbers_from : ℕ → ℕ → List ℤ
numbers_from first zero = []
numbers_from first (suc n) = pos first ∷ numbers_from (first + 1) n

pub numbers-push : (first n : ℕ) → numbers_from first n ++ pos (first + n) ∷ [] ≡ numbers_from first (suc n)
numbers-push first zero = ap (λ k. pos k ∷ []) (omega arith)
numbers-push first (suc n) =
    let same : first + suc n ≡ (first + 1) + n = omega arith in
    ap (λ k. pos first ∷ (numbers_from (first + 1) n ++ pos k ∷ [])) same ∙ ap (λ r. pos first ∷ r) (numbers-push (first + 1) n)

same_pos : (i j : ℕ) → int_eq (pos i) (pos j) ≡ true → i ≡ j
same_pos i j t = let same : pos i ≡ pos j = int_cmp-IsAntisymmetric (pos i) (pos j) ((Equal-is (int_cmp (pos i) (pos j))).0 t) in cc

other_pos : (i j : ℕ) → (i ≡ j → ⊥) → int_eq (pos i) (pos j) ≡ false
other_pos i j differ = false_from_ne_true _ (λ t. differ (same_pos i j t))

itself_pos : (i : ℕ) → int_eq (pos i) (pos i) ≡ true
itself_pos i = ap is_eq (tied_itself int_cmp_total (pos i))

-- the next number isn't used
pub number-fresh : (first n k : ℕ) → first + n ≤ k → is_used (numbers_from first n) (pos k) ≡ false
number-fresh first zero k h = refl
number-fresh first (suc n) k h = or_from _ _ (other_pos k first (λ e. omega arith)) (number-fresh (first + 1) n k (omega arith))

number-place : (first n i : ℕ) → i < n → position_or_len (int_eq (pos (first + i))) (numbers_from first n) ≡ i
number-place first zero i h = absurd (omega arith)
number-place first (suc n) zero h = let same : first + 0 ≡ first = omega arith in rw (same, itself_pos first) refl
number-place first (suc n) (suc i) h =
    let other : int_eq (pos (first + suc i)) (pos first) ≡ false = other_pos (first + suc i) first (λ e. omega arith) in
    let next : position_or_len (int_eq (pos (first + suc i))) (numbers_from (first + 1) n) ≡ i =
    ap (λ k. position_or_len (int_eq (pos k)) (numbers_from (first + 1) n)) (omega arith) ∙ number-place (first + 1) n i (omega arith) in
    rw other (rw next (omega arith))

length-numbers : (first n : ℕ) → length (numbers_from first n) ≡ n
length-numbers first zero = refl
length-numbers first (suc n) = ap suc (length-numbers (first + 1) n)

-- a number from 1 on stands at the position before it
pub position-number : (n k : ℕ) → 1 ≤ k → k ≤ n → position_of (numbers_from 1 n) (pos k) ≡ Ok (k - 1)
position-number n zero low high = absurd (omega arith)
position-number n (suc i) low high =
    let same : 1 + i ≡ suc i = omega arith in
    let at : position_or_len (int_eq (pos (suc i))) (numbers_from 1 n) ≡ i = ap (λ k. position_or_len (int_eq (pos k)) (numbers_from 1 n)) (sym same) ∙ number-place 1 n i (omega arith) in
    let before : suc i - 1 ≡ i = omega arith in
    rw (at, length-numbers 1 n, lt-ltb i n (omega arith), before) refl

-- ---- the number of a place among nodes

pub record IsAmong (nodes : List Coordinates) (p : Coordinates) : Type 0 where
  pub low : 1 ≤ number_among nodes p
  pub high : number_among nodes p ≤ length nodes
  pub there : (d : Coordinates) → get_or nodes (number_among nodes p - 1) d ≡ p

same_place : (p q : Coordinates) → is_eq (place_cmp p q) ≡ true → p ≡ q
same_place p q t = place_cmp-IsAntisymmetric p q ((Equal-is (place_cmp p q)).0 t)

itself_place : (p : Coordinates) → is_eq (place_cmp p p) ≡ true
itself_place p = ap is_eq (tied_itself place_cmp_total p)

later : (n : ℕ) (node : Coordinates) (nodes : List Coordinates) (d : Coordinates) → 1 ≤ n → get_or (node ∷ nodes) ((1 + n) - 1) d ≡ get_or nodes (n - 1) d
later zero node nodes d h = absurd (omega arith)
later (suc n) node nodes d h =
    let first : (1 + suc n) - 1 ≡ suc n = omega arith in
    let rest : suc n - 1 ≡ n = omega arith in
    rw (first, rest) refl

pub among : (nodes : List Coordinates) (p : Coordinates) → has place_cmp p nodes ≡ true → IsAmong nodes p
among [] p h = absurd cc
among (node ∷ nodes) p h =
    elim (cases_Bool (is_eq (place_cmp node p))) [
      | inl tied ↦
          let one : number_among (node ∷ nodes) p ≡ 1 = rw tied refl in
          record { low = omega (arith, one); high = omega (arith, one); there = λ d. ap (λ k. get_or (node ∷ nodes) (k - 1) d) one ∙ same_place node p tied }
      | inr other ↦
          let apart : is_eq (place_cmp p node) ≡ false =
          false_from_ne_true _ (λ t. let same : p ≡ node = same_place p node t in let tied : is_eq (place_cmp node p) ≡ true = subst (λ q. is_eq (place_cmp node q) ≡ true) (sym same) (itself_place node) in cc) in
          let rest : has place_cmp p nodes ≡ true = rw apart at h in
          let before = among nodes p rest in
          let more : number_among (node ∷ nodes) p ≡ 1 + number_among nodes p = rw other refl in
          record {
            low = omega (arith, more);
            high = omega (arith, more, before.high);
            there = λ d. ap (λ k. get_or (node ∷ nodes) (k - 1) d) more ∙ later (number_among nodes p) node nodes d before.low ∙ before.there d;
          }
    ]

-- different places have different numbers
same_number : (nodes : List Coordinates) (p q : Coordinates) → IsAmong nodes p → IsAmong nodes q → number_among nodes p ≡ number_among nodes q → p ≡ q
same_number nodes p q a b e = sym (a.there p) ∙ ap (λ k. get_or nodes (k - 1) p) e ∙ b.there p

abbrev pub numbers_of_places : List Coordinates → List Coordinates → List ℤ
numbers_of_places nodes places = map (λ p. pos (number_among nodes p)) places

none_same : (nodes : List Coordinates) (p : Coordinates) (qs : List Coordinates) → has place_cmp p nodes ≡ true → list_all (λ q. has place_cmp q nodes) qs ≡ true → has place_cmp p qs ≡ false
    → list_any (int_eq (pos (number_among nodes p))) (numbers_of_places nodes qs) ≡ false
none_same nodes p [] there all none = refl
none_same nodes p (q ∷ qs) there all none =
    let parts = and_parts (has place_cmp q nodes) (list_all (λ r. has place_cmp r nodes) qs) all in
    let apart = or_parts (is_eq (place_cmp p q)) (has place_cmp p qs) none in
    let differ : number_among nodes p ≡ number_among nodes q → ⊥ =
    λ e. (let same : p ≡ q = same_number nodes p q (among nodes p there) (among nodes q parts.0) e in let tied : is_eq (place_cmp p q) ≡ true = subst (λ r. is_eq (place_cmp p r) ≡ true) same (itself_place p) in cc) in
    or_from _ _ (other_pos (number_among nodes p) (number_among nodes q) differ) (none_same nodes p qs there parts.1 apart.1)

pub numbers-different : (nodes places : List Coordinates) → list_all (λ q. has place_cmp q nodes) places ≡ true → are_distinct place_cmp places ≡ true → are_different (numbers_of_places nodes places) ≡ true
numbers-different nodes [] all apart = refl
numbers-different nodes (p ∷ places) all apart =
    let parts = and_parts (has place_cmp p nodes) (list_all (λ q. has place_cmp q nodes) places) all in
    let both = and_parts (not (has place_cmp p places)) (are_distinct place_cmp places) apart in
    and_from _ _ (not_from_false _ (none_same nodes p places parts.0 parts.1 (not-true _ both.0))) (numbers-different nodes places parts.1 both.1)

-- the positions of places
pub positions-found : (nodes places : List Coordinates) → list_all (λ q. has place_cmp q nodes) places ≡ true
    → each (position_of (numbers_from 1 (length nodes))) (numbers_of_places nodes places) ≡ Ok (map (λ p. number_among nodes p - 1) places)
positions-found nodes [] all = refl
positions-found nodes (p ∷ places) all =
    let parts = and_parts (has place_cmp p nodes) (list_all (λ q. has place_cmp q nodes) places) all in
    let at = among nodes p parts.0 in
    rw (position-number (length nodes) (number_among nodes p) at.low at.high, positions-found nodes places parts.1) refl

-- ---- corners

pub ascending-set : (places : List Coordinates) → are_ascending place_cmp places ≡ true → places ≡ ascending_of place_cmp places
ascending-set places h = is-ascending_of place_cmp_total place_cmp-IsAntisymmetric places places (strict_from_ascending place_cmp_total places h) (λ q. refl)

-- what makes an ascending list, each of its places once, is distinct
pub distinct-from_set : (places corners : List Coordinates) → corners ≡ ascending_of place_cmp places → length places ≡ length corners → are_distinct place_cmp places ≡ true
distinct-from_set places corners set long = sym (length-ascending_of place_cmp_total places).1 ∙ eq-eqb _ _ (ap length (sym set) ∙ sym long)

exchanged : (x y z w : Bool) → (x || (y || (z || (w || false)))) ≡ (x || (y || (w || (z || false))))
exchanged true y z w = refl
exchanged false true z w = refl
exchanged false false true true = refl
exchanged false false true false = refl
exchanged false false false true = refl
exchanged false false false false = refl

-- the corners in the order in which they are written are the corners
pub oriented-set : (corners : List Coordinates) → are_ascending place_cmp corners ≡ true → corners ≡ ascending_of place_cmp (oriented corners)
oriented-set [] h = ascending-set [] h
oriented-set (a ∷ []) h = ascending-set (a ∷ []) h
oriented-set (a ∷ b ∷ []) h = ascending-set (a ∷ b ∷ []) h
oriented-set (a ∷ b ∷ c ∷ []) h = ascending-set (a ∷ b ∷ c ∷ []) h
oriented-set (a ∷ b ∷ c ∷ d ∷ []) h =
    elim (int_lt (vol6 a b c d) (pos 0)) as (λ negative. a ∷ b ∷ c ∷ d ∷ [] ≡ ascending_of place_cmp (cond negative (a ∷ b ∷ d ∷ c ∷ []) (a ∷ b ∷ c ∷ d ∷ []))) [
      | true ↦ is-ascending_of place_cmp_total place_cmp-IsAntisymmetric (a ∷ b ∷ c ∷ d ∷ []) (a ∷ b ∷ d ∷ c ∷ []) (strict_from_ascending place_cmp_total (a ∷ b ∷ c ∷ d ∷ []) h)
          (λ q. exchanged (eq_by_cmp place_cmp q a) (eq_by_cmp place_cmp q b) (eq_by_cmp place_cmp q c) (eq_by_cmp place_cmp q d))
      | false ↦ ascending-set (a ∷ b ∷ c ∷ d ∷ []) h
    ]
oriented-set (a ∷ b ∷ c ∷ d ∷ e ∷ es) h = ascending-set (a ∷ b ∷ c ∷ d ∷ e ∷ es) h

pub oriented-length : (corners : List Coordinates) → length (oriented corners) ≡ length corners
oriented-length [] = refl
oriented-length (a ∷ []) = refl
oriented-length (a ∷ b ∷ []) = refl
oriented-length (a ∷ b ∷ c ∷ []) = refl
oriented-length (a ∷ b ∷ c ∷ d ∷ []) = elim (int_lt (vol6 a b c d) (pos 0)) as (λ negative. length (cond negative (a ∷ b ∷ d ∷ c ∷ []) (a ∷ b ∷ c ∷ d ∷ [])) ≡ 4) [ true ↦ refl | false ↦ refl ]
oriented-length (a ∷ b ∷ c ∷ d ∷ e ∷ es) = refl

exchanged_all : (x y z w : Bool) → (x && (y && (z && (w && true)))) ≡ (x && (y && (w && (z && true))))
exchanged_all false y z w = refl
exchanged_all true false z w = refl
exchanged_all true true true true = refl
exchanged_all true true true false = refl
exchanged_all true true false true = refl
exchanged_all true true false false = refl

pub oriented-all : (p : Coordinates → Bool) (corners : List Coordinates) → list_all p (oriented corners) ≡ list_all p corners
oriented-all p [] = refl
oriented-all p (a ∷ []) = refl
oriented-all p (a ∷ b ∷ []) = refl
oriented-all p (a ∷ b ∷ c ∷ []) = refl
oriented-all p (a ∷ b ∷ c ∷ d ∷ []) =
    elim (int_lt (vol6 a b c d) (pos 0)) as (λ negative. list_all p (cond negative (a ∷ b ∷ d ∷ c ∷ []) (a ∷ b ∷ c ∷ d ∷ [])) ≡ list_all p (a ∷ b ∷ c ∷ d ∷ [])) [
      | true ↦ exchanged_all (p a) (p b) (p d) (p c)
      | false ↦ refl
    ]
oriented-all p (a ∷ b ∷ c ∷ d ∷ e ∷ es) = refl
