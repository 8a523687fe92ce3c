-- The tetrahedra from a place over the faces of a cell with few other corners: at most four, whatever the order in which the corners are listed, and however often.
use Rattle.std.proofs.Common.{◌≡◌, ◌≤◌, ℕ, zero, suc, Bool, true, false, cond, not, ◌||◌, List, [], ◌∷◌, length, length-append, Some, None, refl, sym, ap, subst, ◌∙◌, arith}
use Rattle.std.specs.Prelude.{ℤ, map}
use Rattle.std.specs.Cmp.Lexicographic.{slice_cmp}
use Rattle.std.specs.FinMap.{IsAntisymmetric, slice_cmp-IsAntisymmetric}
use Rattle.std.specs.List.{AllByRecursion, flat_map, list_any}
use Rattle.std.specs.Option.{option_to_list}
use Rattle.std.specs.Ordering.{eq_by_cmp}
use Rattle.std.proofs.lemmas.Bool.{and_from, false≢true, false_from_ne_true, not_from_false, eq-eqb, eqb-true}
use Rattle.std.proofs.lemmas.List.Folds.{list_any-append}
use Rattle.ma_geom.specs.Coordinates.{Coordinates, place_cmp}
use Rattle.ma_geom.specs.Lines.{is_flat}
use Rattle.ma_geom.proofs.PlaceOrder.{place_cmp-IsAntisymmetric, place_cmp_total}
use Rattle.ma_cells.specs.Ascending.{are_distinct, ascending_of, has, put}
use Rattle.ma_cells.specs.Faces.{choices}
use Rattle.ma_cells.specs.Stars.{besides, cone}
use Rattle.ma_cells.specs.Tetrahedron.{Tetrahedron, tet_cmp}
use Rattle.ma_cells.proofs.Ascents.{ascending_from_strict, has-ascending_of, has-head, length-ascending_of, sorted-ascending_of}
use Rattle.ma_cells.proofs.CellOrders.{tet_cmp_total}
use Rattle.ma_cells.proofs.Choices.{all-append, all-choices, has-choices}
use Rattle.ma_cells.proofs.Corners.{ascending_is}
use Rattle.ma_cells.proofs.Members.{all-at, all_members, any-at, has-filter, tied_is}
use Rattle.ma_cells.proofs.Permutations.{alone}
use Rattle.ma_cells.proofs.Passing.{all-map, all_pass}
use Rattle.ma_cells.proofs.SetItems.{all-ascending_of}

-- ---- faces
-- that three places are among these
pub record IsFaceOf (corners face : List Coordinates) : Type 0 where
  pub three : length face ≡ 3
  pub within : AllByRecursion (λ p. has place_cmp p corners ≡ true) face

choices_long : {K : Type 0} (n : ℕ) (xs : List K) → AllByRecursion (λ c. length c ≡ n) (choices n xs)
choices_long zero xs = (refl, tt)
choices_long (suc n) [] = tt
choices_long {K} (suc n) (x ∷ xs) =
    all-append (λ (c : List K). length c ≡ suc n) (map (λ rest. x ∷ rest) (choices n xs)) (choices (suc n) xs)
    (all-map (λ (c : List K). length c ≡ n) (λ (c : List K). length c ≡ suc n) (λ rest. x ∷ rest) (λ c e. ap suc e) (choices n xs) (choices_long n xs)) (choices_long (suc n) xs)

pub both_hold : {X : Type 0} (P Q R : X → Type 0) → ((x : X) → P x → Q x → R x) → (xs : List X) → AllByRecursion P xs → AllByRecursion Q xs → AllByRecursion R xs
both_hold P Q R f [] h k = tt
both_hold P Q R f (x ∷ xs) h k = (f x h.0 k.0, both_hold P Q R f xs h.1 k.1)

-- a list's own items are among it
own : (corners : List Coordinates) → AllByRecursion (λ p. has place_cmp p corners ≡ true) corners
own corners = all_pass (λ p. has place_cmp p corners) corners (all_members place_cmp_total (λ p. has place_cmp p corners) corners (λ q there. there))

pub faces_are : (corners : List Coordinates) → AllByRecursion (IsFaceOf corners) (choices 3 corners)
faces_are corners =
    both_hold (λ face. length face ≡ 3) (λ face. AllByRecursion (λ p. has place_cmp p corners ≡ true) face) (IsFaceOf corners) (λ face three within. record { three = three; within = within })
    (choices 3 corners) (choices_long 3 corners) (all-choices (λ p. has place_cmp p corners ≡ true) 3 corners (own corners))

-- places that aren't flat are four
pub four_places : (places : List Coordinates) → is_flat places ≡ false → length places ≡ 4
four_places [] h = absurd (false≢true (sym h))
four_places (a ∷ []) h = absurd (false≢true (sym h))
four_places (a ∷ b ∷ []) h = absurd (false≢true (sym h))
four_places (a ∷ b ∷ c ∷ []) h = absurd (false≢true (sym h))
four_places (a ∷ b ∷ c ∷ d ∷ []) h = refl
four_places (a ∷ b ∷ c ∷ d ∷ e ∷ rest) h = absurd (false≢true (sym h))

-- ---- a face and a further place that make a tetrahedron
module _ (v : Coordinates) (face : List Coordinates) (three : length face ≡ 3) (solid : is_flat (ascending_of place_cmp (v ∷ face)) ≡ false) where
  -- no two of them are the same
  pub all_differ : are_distinct place_cmp (v ∷ face) ≡ true
  all_differ =
      sym (length-ascending_of place_cmp_total (v ∷ face)).1
      ∙ eq-eqb (length (ascending_of place_cmp (v ∷ face))) (suc (length face)) (four_places (ascending_of place_cmp (v ∷ face)) solid ∙ sym (ap suc three))

  apart : (has place_cmp v face ≡ false) × (are_distinct place_cmp face ≡ true)
  apart = alone (has place_cmp v face) (are_distinct place_cmp face) all_differ

  abbrev set : List Coordinates
  set = ascending_of place_cmp face

  set_three : length set ≡ 3
  set_three = eqb-true (length set) (length face) ((length-ascending_of place_cmp_total face).1 ∙ apart.1) ∙ three

  again : ascending_of place_cmp set ≡ set
  again = ascending_is set (ascending_from_strict place_cmp_total set (sorted-ascending_of place_cmp_total face))

-- ---- the tetrahedra
any-flat_map : {X Y : Type 0} (p : Y → Bool) (f : X → List Y) (xs : List X) → list_any p (flat_map f xs) ≡ list_any (λ x. list_any p (f x)) xs
any-flat_map p f [] = refl
any-flat_map p f (x ∷ xs) = list_any-append p (f x) (flat_map f xs) ∙ ap (λ b. list_any p (f x) || b) (any-flat_map p f xs)

exact : IsAntisymmetric (slice_cmp place_cmp)
exact = slice_cmp-IsAntisymmetric place_cmp-IsAntisymmetric

module _ (v : Coordinates) (phys elem : ℤ) where
  -- the other corners, as a set
  abbrev pub others : List Coordinates → List Coordinates
  others corners = ascending_of place_cmp (besides (v ∷ []) corners)

  -- the tetrahedra from v over the faces of at most four places
  abbrev pub cones_over : List Coordinates → List Tetrahedron
  cones_over (a ∷ b ∷ c ∷ d ∷ e ∷ rest) = []
  cones_over places = flat_map (cone v phys elem) (choices 3 places)

  pub one_cone : (face : List Coordinates) → length (cone v phys elem face) ≤ 1
  one_cone face = at_most_one (is_flat (ascending_of place_cmp (v ∷ face)))
    where
      at_most_one : (b : Bool) → length {A = Tetrahedron} (option_to_list (cond b None (Some (record { corners = ascending_of place_cmp (v ∷ face); phys = phys; elem = elem })))) ≤ 1
      at_most_one true = omega arith
      at_most_one false = omega arith

  few_cones : (faces : List (List Coordinates)) → length (flat_map (cone v phys elem) faces) ≤ length faces
  few_cones [] = omega arith
  few_cones (face ∷ faces) =
      let rest = few_cones faces in
      let both = length-append (cone v phys elem face) (flat_map (cone v phys elem) faces) in
      let one = one_cone face in
      omega (arith, rest, both, one)

  pub few_cones_over : (places : List Coordinates) → length (cones_over places) ≤ 4
  few_cones_over [] = omega arith
  few_cones_over (a ∷ []) = omega arith
  few_cones_over (a ∷ b ∷ []) = omega arith
  few_cones_over (a ∷ b ∷ c ∷ []) = let few = few_cones (choices 3 (a ∷ b ∷ c ∷ [])) in omega (arith, few)
  few_cones_over (a ∷ b ∷ c ∷ d ∷ []) = few_cones (choices 3 (a ∷ b ∷ c ∷ d ∷ []))
  few_cones_over (a ∷ b ∷ c ∷ d ∷ e ∷ rest) = omega arith

  cones_over_is : (places : List Coordinates) → length places ≤ 4 → flat_map (cone v phys elem) (choices 3 places) ≡ cones_over places
  cones_over_is [] few = refl
  cones_over_is (a ∷ []) few = refl
  cones_over_is (a ∷ b ∷ []) few = refl
  cones_over_is (a ∷ b ∷ c ∷ []) few = refl
  cones_over_is (a ∷ b ∷ c ∷ d ∷ []) few = refl
  cones_over_is (a ∷ b ∷ c ∷ d ∷ e ∷ rest) few = absurd (omega (arith, few))

  -- what is over a face is the same over the set of it
  module _ (corners face : List Coordinates) (is : IsFaceOf corners face) (solid : is_flat (ascending_of place_cmp (v ∷ face)) ≡ false) where
    abbrev over : Tetrahedron
    over = record { corners = ascending_of place_cmp (v ∷ face); phys = phys; elem = elem }

    on_set : cone v phys elem (set v face is.three solid) ≡ over ∷ []
    on_set = ap (λ l. cone_of (put place_cmp v l)) (again v face is.three solid) ∙ ap (λ b. option_to_list (cond b None (Some over))) solid
      where
        cone_of : List Coordinates → List Tetrahedron
        cone_of l = option_to_list (cond (is_flat l) None (Some (record { corners = l; phys = phys; elem = elem })))

    held : AllByRecursion (λ p. has place_cmp p corners ≡ true) (set v face is.three solid)
    held = all-ascending_of place_cmp (λ p. has place_cmp p corners ≡ true) face is.within

    besides_v : (q : Coordinates) → has place_cmp q (set v face is.three solid) ≡ true → has place_cmp q (v ∷ []) ≡ false
    besides_v q there = false_from_ne_true (has place_cmp q (v ∷ [])) (λ e.
        false≢true (sym (has-ascending_of place_cmp_total v face ∙ (apart v face is.three solid).0) ∙ subst (λ p. has place_cmp p (set v face is.three solid) ≡ true) (tied_is place_cmp-IsAntisymmetric q v (one (eq_by_cmp place_cmp q v) e)) there))
      where
        one : (b : Bool) → (b || false) ≡ true → b ≡ true
        one true e = refl
        one false e = e

    among : has (slice_cmp place_cmp) (set v face is.three solid) (choices 3 (others corners)) ≡ true
    among =
        let s = set v face is.three solid in
        subst (λ n. has (slice_cmp place_cmp) s (choices n (others corners)) ≡ true) (set_three v face is.three solid)
        (has-choices place_cmp_total s (others corners) (sorted-ascending_of place_cmp_total face) (sorted-ascending_of place_cmp_total (besides (v ∷ []) corners))
        ∙ all_members place_cmp_total (λ q. has place_cmp q (others corners)) s (λ q there.
        has-ascending_of place_cmp_total q (besides (v ∷ []) corners) ∙ has-filter place_cmp-IsAntisymmetric (λ p. not (has place_cmp p (v ∷ []))) q corners
        ∙ and_from (has place_cmp q corners) (not (has place_cmp q (v ∷ []))) (all-at place_cmp-IsAntisymmetric (λ p. has place_cmp p corners ≡ true) q s held there) (not_from_false (has place_cmp q (v ∷ [])) (besides_v q there))))

    over_is_there : has tet_cmp over (flat_map (cone v phys elem) (choices 3 (others corners))) ≡ true
    over_is_there =
        any-flat_map (eq_by_cmp tet_cmp over) (cone v phys elem) (choices 3 (others corners))
        ∙ any-at exact (λ f. has tet_cmp over (cone v phys elem f)) (set v face is.three solid) (choices 3 (others corners)) among
        (ap (has tet_cmp over) on_set ∙ has-head tet_cmp_total over [])

  -- each tetrahedron from v over a face is among these, where there are few other corners
  pub cone_is_over : (corners face : List Coordinates) → length (others corners) ≤ 4 → IsFaceOf corners face → AllByRecursion (λ tet. has tet_cmp tet (cones_over (others corners)) ≡ true) (cone v phys elem face)
  cone_is_over corners face few is =
      let made : Tetrahedron = record { corners = ascending_of place_cmp (v ∷ face); phys = phys; elem = elem } in
      elim (is_flat (ascending_of place_cmp (v ∷ face))) as (λ b. is_flat (ascending_of place_cmp (v ∷ face)) ≡ b → AllByRecursion (λ tet. has tet_cmp tet (cones_over (others corners)) ≡ true) (option_to_list (cond b None (Some made)))) [
        | true ↦ λ _. tt
        | false ↦ λ e. (subst (λ l. has tet_cmp made l ≡ true) (cones_over_is (others corners) few) (over_is_there corners face is e), tt)
      ] refl
