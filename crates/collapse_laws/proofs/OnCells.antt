-- Marked cells stay cells of tetrahedra.
use Rattle.std.proofs.Common.{◌≡◌, ◌≢◌, ◌⊎◌, inl, inr, ℕ, ◌+◌, Bool, true, false, cond, not, ◌&&◌, ◌||◌, List, [], ◌∷◌, ◌++◌, filter, length, refl, sym, ap, ap₂, subst, ◌∙◌, arith}
use Rattle.std.specs.Prelude.{ℤ, neg_ℤ, map}
use Rattle.std.specs.Cmp.Lexicographic.{slice_cmp}
use Rattle.std.specs.List.{AllByRecursion, count_by, flat_map, list_all, list_any}
use Rattle.std.specs.List.Sorted.{IsPermutation}
use Rattle.std.specs.Ordering.{eq_by_cmp, int_eq}
use Rattle.std.proofs.lemmas.Bool.{and_parts, false≢true, not-true, or_parts, or_right, true_from_ne_false}
use Rattle.std.proofs.lemmas.Int.{ints}
use Rattle.std.proofs.lemmas.List.Folds.{list_any-append}
use Rattle.std.proofs.lemmas.List.Kept.{AllPairs-filter}
use Rattle.std.proofs.lemmas.List.Sums.{length-filter}
use Rattle.ma_geom.specs.Coordinates.{Coordinates, place_cmp}
use Rattle.ma_geom.specs.Lines.{is_flat}
use Rattle.ma_geom.specs.Volume.{vol6}
use Rattle.ma_geom.proofs.PlaceOrder.{place_cmp-IsAntisymmetric, place_cmp_total}
use Rattle.ma_cells.specs.Ascending.{ascending_of, has}
use Rattle.ma_cells.specs.Cells.{CellMark, corners_of, is_cell, mark_cmp}
use Rattle.ma_cells.specs.Faces.{faces_of, holds_all}
use Rattle.ma_cells.specs.Incidence.{is_marked, is_on}
use Rattle.ma_cells.specs.Stars.{besides, star_of}
use Rattle.ma_cells.specs.Tetrahedron.{Tetrahedron}
use Rattle.ma_cells.proofs.Ascents.{has-ascending_of}
use Rattle.ma_cells.proofs.Members.{has-filter}
use Rattle.ma_cells.proofs.Passing.{all-filter, all-flat_map, all-map, all_anyway, all_pass, all_weaker, test_all}
use Rattle.ma_cells.proofs.Permutations.{apart, has-permutation, same as same_place, tied}
use Rattle.ma_cells.proofs.SetItems.{all-ascending_of}
use Rattle.ma_cover.specs.Inside.{are_alike}
use Rattle.ma_cover.specs.Sound.{IsConforming, LieOnBothSides}
use Rattle.mesh_laws.specs.Points.{NoneIsFlat}
use Rattle.mesh_laws.proofs.BothSides.{BothSides, IsFaceOf, Pairs, is_face, pairs_from}
use Rattle.mesh_laws.proofs.Listings.{same, same_itself}
use Rattle.mesh_laws.proofs.Lists.{all_two, count-cons}
use Rattle.mesh_laws.proofs.MovedOff.{corners_of as corners_of_tet}
use Rattle.mesh_laws.proofs.Weights.{alike_itself, by_four, some_a, some_b, some_c}
use Rattle.cavity_laws.specs.Cavity.{AreOnOneSide, Facet, facets_of}
use Rattle.cavity_laws.proofs.Swaps.{not_flat_over}
use Rattle.cavity_collapse.specs.Collapsing.{moved_mark, moved_marks}
use Rattle.collapse_laws.proofs.Cover.{after, has_face, rest_of}
use Rattle.collapse_laws.proofs.Filling.{CanCollapse, IsAt, and_true, face_corner, fill, filter_passes, is_of}
use Rattle.collapse_laws.proofs.Marks.{any_given, moved_corners, to_v}
use Rattle.collapse_laws.proofs.Stars.{IsSplit, opposite, sorted_flat, split}

-- ---- items of lists
-- what follows from each item that passes, follows where one does
pub any_gives : {X : Type 0} (f : X → Bool) (Q : Type 0) (xs : List X) → AllByRecursion (λ x. f x ≡ true → Q) xs → list_any f xs ≡ true → Q
any_gives f Q [] all h = absurd (false≢true h)
any_gives f Q (x ∷ xs) all h =
    elim (f x) as (λ b. f x ≡ b → (b || list_any f xs) ≡ true → Q) [ true ↦ λ e _. all.0 e | false ↦ λ _ k. any_gives f Q xs all.1 k ] refl h

-- an item that passes two tests passes one of those that pass the other
in_filter : {X : Type 0} (p g : X → Bool) (xs : List X) → AllByRecursion (λ x. p x ≡ true → g x ≡ true → list_any g (filter p xs) ≡ true) xs
in_filter p g [] = tt
in_filter p g (x ∷ xs) = (
  λ e f. subst (λ b. list_any g (cond b (x ∷ filter p xs) (filter p xs)) ≡ true) (sym e) (ap (λ b. b || list_any g (filter p xs)) f),
  all_weaker (λ y. p y ≡ true → g y ≡ true → list_any g (filter p xs) ≡ true) (λ y. p y ≡ true → g y ≡ true → list_any g (filter p (x ∷ xs)) ≡ true)
      (λ y k e f. more (p x) (k e f)) xs (in_filter p g xs),
)
  where
    more : (b : Bool) → list_any g (filter p xs) ≡ true → list_any g (cond b (x ∷ filter p xs) (filter p xs)) ≡ true
    more true h = or_right (g x) (list_any g (filter p xs)) h
    more false h = h

all_in : (faces : List (List Coordinates)) → AllByRecursion (λ f. has (slice_cmp place_cmp) f faces ≡ true) faces
all_in [] = tt
all_in (f ∷ faces) = (
  ap (λ b. b || has (slice_cmp place_cmp) f faces) (same_itself f),
  all_weaker (λ g. has (slice_cmp place_cmp) g faces ≡ true) (λ g. has (slice_cmp place_cmp) g (f ∷ faces) ≡ true) (λ g h. or_right (same g f) (has (slice_cmp place_cmp) g faces) h) faces (all_in faces),
)

-- a test that an item passes, some pass
pub counted : {X : Type 0} (xs : List X) → AllByRecursion (λ x. (k : X → Bool) → k x ≡ true → count_by k xs ≢ 0) xs
counted [] = tt
counted (x ∷ xs) = (
  λ k e none. first (k x) (count_by k xs) (count_by k (x ∷ xs)) e (count-cons k x xs) none,
  all_weaker (λ y. (k : _) → k y ≡ true → count_by k xs ≢ 0) (λ y. (k : _) → k y ≡ true → count_by k (x ∷ xs) ≢ 0)
      (λ y h k e none. h k e (later (k x) (count_by k xs) (count_by k (x ∷ xs)) (count-cons k x xs) none)) xs (counted xs),
)
  where
    first : (b : Bool) (n m : ℕ) → b ≡ true → m ≡ cond b 1 0 + n → m ≢ 0
    first true n m e f g = omega arith
    first false n m e f g = false≢true e

    later : (b : Bool) (n m : ℕ) → m ≡ cond b 1 0 + n → m ≡ 0 → n ≡ 0
    later true n m f g = absurd (omega arith)
    later false n m f g = omega arith

none_passes : {X : Type 0} (f : X → Bool) (xs : List X) → list_any f xs ≡ false → AllByRecursion (λ x. f x ≡ false) xs
none_passes f [] h = tt
none_passes f (x ∷ xs) h = let parts = or_parts (f x) (list_any f xs) h in (parts.0, none_passes f xs parts.1)

-- ---- the face across from a corner
-- what holds of each facet holds of it
of_opposite : (P : Facet → Type 0) (a : Coordinates) (corners : List Coordinates) → IsSplit a corners → AllByRecursion P (facets_of corners) → P (opposite a corners)
of_opposite P a corners is all =
    (subst (AllByRecursion P) is.alone (all-flat_map P P (λ x. cond (has place_cmp a x.face) [] (x ∷ [])) (λ x p. one (has place_cmp a x.face) x p) (facets_of corners) all)).0
  where
    one : (b : Bool) (x : Facet) → P x → AllByRecursion P (cond b [] (x ∷ []))
    one true x p = tt
    one false x p = (p, tt)

pub opposite_is_face : (a : Coordinates) (corners : List Coordinates) → is_flat corners ≡ false → has place_cmp a corners ≡ true → has (slice_cmp place_cmp) (besides (a ∷ []) corners) (faces_of corners) ≡ true
opposite_is_face a corners solid there =
    of_opposite (λ x. has (slice_cmp place_cmp) x.face (faces_of corners) ≡ true) a corners (split a corners solid there)
    (by_four (λ c. AllByRecursion (λ x. has (slice_cmp place_cmp) x.face (faces_of c) ≡ true) (facets_of c)) (λ w x y z _. all_in (faces_of (w ∷ x ∷ y ∷ z ∷ []))) corners solid)

-- and the corner isn't in its plane
pub self_sided : (a : Coordinates) (corners : List Coordinates) → is_flat corners ≡ false → has place_cmp a corners ≡ true → AreOnOneSide (besides (a ∷ []) corners) a a
self_sided a corners solid there =
    of_opposite (λ x. AreOnOneSide x.face x.across x.across) a corners (split a corners solid there)
    (by_four (λ c. AllByRecursion (λ x. AreOnOneSide x.face x.across x.across) (facets_of c)) (λ w x y z s. (
      alike_itself (vol6 w x y z) s,
      (alike_itself (vol6 w x z y) (some_c w x y z s), (alike_itself (vol6 w y z x) (some_b w x y z s), (alike_itself (vol6 x y z w) (some_a w x y z s), tt))),
    )) corners solid)

opposite_is_off : (a : Coordinates) (corners : List Coordinates) → is_flat corners ≡ false → has place_cmp a corners ≡ true → is_flat (a ∷ besides (a ∷ []) corners) ≡ false
opposite_is_off a corners solid there = not_flat_over a (besides (a ∷ []) corners) a (self_sided a corners solid there)

-- a corner that isn't on a face of a tetrahedron is the fourth
fourth : (v : Coordinates) (face corners : List Coordinates) → has place_cmp v face ≡ false → has place_cmp v corners ≡ true → IsFaceOf face corners → IsPermutation (face ++ v ∷ []) corners
fourth v (u ∷ w ∷ x ∷ []) corners off there (d, order) = by (eq_by_cmp place_cmp v d) refl
  where
    last : (s t u r : Bool) → (s || (t || (u || false))) ≡ false → (s || (t || (u || (r || false)))) ≡ true → r ≡ true
    last true t u r h k = absurd (false≢true (sym h))
    last false true u r h k = absurd (false≢true (sym h))
    last false false true r h k = absurd (false≢true (sym h))
    last false false false true h k = refl
    last false false false false h k = absurd (false≢true k)

    by : (b : Bool) → eq_by_cmp place_cmp v d ≡ b → IsPermutation (u ∷ w ∷ x ∷ v ∷ []) corners
    by b e =
        let is = last (eq_by_cmp place_cmp v u) (eq_by_cmp place_cmp v w) (eq_by_cmp place_cmp v x) (eq_by_cmp place_cmp v d) off (has-permutation v (u ∷ w ∷ x ∷ d ∷ []) corners order ∙ there) in
        subst (λ q. IsPermutation (u ∷ w ∷ x ∷ q ∷ []) corners) (sym (same_place v d is)) order
fourth v [] corners off there is = absurd is
fourth v (u ∷ []) corners off there is = absurd is
fourth v (u ∷ w ∷ []) corners off there is = absurd is
fourth v (u ∷ w ∷ x ∷ y ∷ l) corners off there is = absurd is

-- so two tetrahedra on both sides of a face don't share the fourth corner
pub no_two : (v : Coordinates) (face s t : List Coordinates) → has place_cmp v face ≡ false → LieOnBothSides s t → IsFaceOf face s → IsFaceOf face t → has place_cmp v s ≡ true → has place_cmp v t ≡ true → ⊥
no_two v (u ∷ w ∷ x ∷ []) s t off sides is_s is_t at_s at_t =
    never (vol6 u w x v) (sides u w x v v (fourth v (u ∷ w ∷ x ∷ []) s off at_s is_s) (fourth v (u ∷ w ∷ x ∷ []) t off at_t is_t))
  where
    never : (n : ℤ) → are_alike n (neg_ℤ n) ≡ true → ⊥
    never n h = grind (arith, ints)
no_two v [] s t off sides is_s is_t at_s at_t = is_s
no_two v (u ∷ []) s t off sides is_s is_t at_s at_t = is_s
no_two v (u ∷ w ∷ []) s t off sides is_s is_t at_s at_t = is_s
no_two v (u ∷ w ∷ x ∷ y ∷ l) s t off sides is_s is_t at_s at_t = is_s

module _ (a v : Coordinates) (tets : List Tetrahedron) (marks : List CellMark) (solid : NoneIsFlat tets) (conforming : IsConforming tets marks) (can : CanCollapse a v tets marks) where
  abbrev At : Tetrahedron → Type 0
  At tet = IsAt a v tets marks solid conforming can tet

  -- what fills the place of a tetrahedron without v
  fill_is : (tet : Tetrahedron) → At tet → has place_cmp v tet.corners ≡ false
      → fill a v tet ≡ record { corners = ascending_of place_cmp (v ∷ besides (a ∷ []) tet.corners); phys = tet.phys; elem = tet.elem } ∷ []
  fill_is tet at away =
      let three = (split a tet.corners at.proper at.corner).three in
      rw (sorted_flat (v ∷ besides (a ∷ []) tet.corners) (omega (arith, three)) ∙ not_flat_over v (besides (a ∷ []) tet.corners) a (at.seen away)) refl

  -- ---- the places of a cell, moved
  module _ (places : List Coordinates) where
    abbrev wanted : List Coordinates
    wanted = ascending_of place_cmp (map (to_v a v) places)

    abbrev has_wanted : Tetrahedron → Bool
    has_wanted tet = holds_all tet.corners wanted

    -- a tetrahedron has them if it has each
    wanted_there : (corners : List Coordinates) → AllByRecursion (λ p. has place_cmp (to_v a v p) corners ≡ true) places → holds_all corners wanted ≡ true
    wanted_there corners all =
        test_all (λ q. has place_cmp q corners) wanted
        (all-ascending_of place_cmp (λ q. has place_cmp q corners ≡ true) (map (to_v a v) places) (all-map (λ p. has place_cmp (to_v a v p) corners ≡ true) (λ q. has place_cmp q corners ≡ true) (to_v a v) (λ p h. h) places all))

    -- one that takes the place of a tetrahedron at a without v has them, if that has each but a and v
    filled_there : (tet : Tetrahedron) → At tet → has place_cmp v tet.corners ≡ false
        → AllByRecursion (λ p. eq_by_cmp place_cmp p a ≡ false → eq_by_cmp place_cmp p v ≡ false → has place_cmp p tet.corners ≡ true) places → list_any has_wanted (fill a v tet) ≡ true
    filled_there tet at away all =
        let corners = ascending_of place_cmp (v ∷ besides (a ∷ []) tet.corners) in
        subst (λ l. list_any has_wanted l ≡ true) (sym (fill_is tet at away))
        (ap (λ b. b || false) (wanted_there corners
        (all_weaker (λ p. eq_by_cmp place_cmp p a ≡ false → eq_by_cmp place_cmp p v ≡ false → has place_cmp p tet.corners ≡ true) (λ p. has place_cmp (to_v a v p) corners ≡ true)
        (λ p h. has-ascending_of place_cmp_total (to_v a v p) (v ∷ besides (a ∷ []) tet.corners) ∙ by p (eq_by_cmp place_cmp p a) refl (eq_by_cmp place_cmp p v) refl h) places all)))
      where
        by : (p : Coordinates) (s : Bool) → eq_by_cmp place_cmp p a ≡ s → (t : Bool) → eq_by_cmp place_cmp p v ≡ t → (eq_by_cmp place_cmp p a ≡ false → eq_by_cmp place_cmp p v ≡ false → has place_cmp p tet.corners ≡ true)
            → has place_cmp (cond (eq_by_cmp place_cmp p a) v p) (v ∷ besides (a ∷ []) tet.corners) ≡ true
        by p true e t f h = subst (λ b. has place_cmp (cond b v p) (v ∷ besides (a ∷ []) tet.corners) ≡ true) (sym e) (ap (λ b. b || has place_cmp v (besides (a ∷ []) tet.corners)) (tied v))
        by p false e true f h = subst (λ b. has place_cmp (cond b v p) (v ∷ besides (a ∷ []) tet.corners) ≡ true) (sym e) (ap (λ b. b || has place_cmp p (besides (a ∷ []) tet.corners)) f)
        by p false e false f h =
            subst (λ b. has place_cmp (cond b v p) (v ∷ besides (a ∷ []) tet.corners) ≡ true) (sym e)
            (or_right (eq_by_cmp place_cmp p v) (has place_cmp p (besides (a ∷ []) tet.corners))
            (has-filter place_cmp-IsAntisymmetric (λ q. not (has place_cmp q (a ∷ []))) p tet.corners ∙ ap₂ (λ s t. s && not (t || false)) (h e f) e))

    -- then one of the tetrahedra that come does
    abbrev Found : Type 0
    Found = list_any has_wanted (after a v tets) ≡ true

    comes : AllByRecursion (λ tet. At tet → holds_all tet.corners (a ∷ []) ≡ true → list_any has_wanted (fill a v tet) ≡ true → Found) tets
    comes =
        all_weaker (λ tet. holds_all tet.corners (a ∷ []) ≡ true → list_any has_wanted (fill a v tet) ≡ true → list_any (λ t. list_any has_wanted (fill a v t)) (star_of (a ∷ []) tets) ≡ true)
        (λ tet. At tet → holds_all tet.corners (a ∷ []) ≡ true → list_any has_wanted (fill a v tet) ≡ true → Found)
        (λ tet h _ at e. list_any-append has_wanted (rest_of a tets) (flat_map (fill a v) (star_of (a ∷ []) tets))
        ∙ or_right (list_any has_wanted (rest_of a tets)) (list_any has_wanted (flat_map (fill a v) (star_of (a ∷ []) tets)))
        (any_given (λ _. Unit {0}) (λ t. list_any has_wanted (fill a v t)) has_wanted (fill a v) (λ t _ k. k) (star_of (a ∷ []) tets) (all_anyway (star_of (a ∷ []) tets)) (h at e))) tets
        (in_filter (λ tet. holds_all tet.corners (a ∷ [])) (λ t. list_any has_wanted (fill a v t)) tets)

  -- ---- another tetrahedron on the face across from v
  module _ (tet : Tetrahedron) (proper : is_flat tet.corners ≡ false) (at_a : has place_cmp a tet.corners ≡ true) (at_v : has place_cmp v tet.corners ≡ true)
      (one : (k : Tetrahedron → Bool) → k tet ≡ true → count_by k tets ≢ 0) where
    abbrev across : List Coordinates
    across = besides (v ∷ []) tet.corners

    abbrev on_it : Tetrahedron → Bool
    on_it t = is_of tet.phys tet.elem t && has_face across t

    a_on : has place_cmp a across ≡ true
    a_on = has-filter place_cmp-IsAntisymmetric (λ p. not (has place_cmp p (v ∷ []))) a tet.corners ∙ ap₂ (λ s t. s && not (t || false)) at_a (apart a v can.differ)

    v_off : has place_cmp v across ≡ false
    v_off = has-filter place_cmp-IsAntisymmetric (λ p. not (has place_cmp p (v ∷ []))) v tet.corners ∙ ap₂ (λ s t. s && not (t || false)) at_v (tied v)

    there : on_it tet ≡ true
    there = ap₂ (λ s t. s && t) (ap₂ (λ s t. s && t) (itself tet.phys) (itself tet.elem)) (opposite_is_face v tet.corners proper at_v)
      where
        itself : (x : ℤ) → int_eq x x ≡ true
        itself x = grind (arith, ints)

    unmarked : is_marked marks across ≡ true → ⊥
    unmarked h = false≢true (sym (opposite_is_off v tet.corners proper at_v) ∙ can.planes across a_on h)

    -- that a tetrahedron has the face and v
    record HasBoth (t : Tetrahedron) : Type 0 where
      face : IsFaceOf across t.corners
      fourth : has place_cmp v t.corners ≡ true

    not_all : (ts : List Tetrahedron) → AllByRecursion HasBoth ts → Pairs (BothSides corners_of_tet) ts → length ts ≢ 2
    not_all [] all pairs e = omega arith
    not_all (s ∷ []) all pairs e = omega arith
    not_all (s ∷ t ∷ []) all pairs e = no_two v across s.corners t.corners v_off pairs.0.0 all.0.face all.1.0.face all.0.fourth all.1.0.fourth
    not_all (s ∷ t ∷ u ∷ ts) all pairs e = omega arith

    -- one that has the face doesn't have v
    other : list_any (λ t. on_it t && not (has place_cmp v t.corners)) tets ≡ true
    other = true_from_ne_false (list_any (λ t. on_it t && not (has place_cmp v t.corners)) tets) (λ none.
        let both = all_two (λ t. is_flat t.corners ≡ false) (λ t. (on_it t && not (has place_cmp v t.corners)) ≡ false) (λ t. on_it t ≡ true → HasBoth t)
        (λ t s h e. record {
          face = is_face t.corners s across (and_parts (is_of tet.phys tet.elem t) (has_face across t) e).1;
          fourth = held (on_it t) (has place_cmp v t.corners) e h;
        }) tets solid (none_passes (λ t. on_it t && not (has place_cmp v t.corners)) tets none) in
        let all = all_two (λ t. on_it t ≡ true) (λ t. on_it t ≡ true → HasBoth t) HasBoth (λ t e h. h e) (filter on_it tets) (filter_passes on_it tets) (all-filter (λ t. on_it t ≡ true → HasBoth t) on_it tets both) in
        let pairs = pairs_from (BothSides corners_of_tet) (filter on_it tets) (AllPairs-filter (BothSides corners_of_tet) on_it tets conforming.sides) in
        by (length-filter on_it tets) (one on_it there) (conforming.faces tet.phys tet.elem across) (not_all (filter on_it tets) all pairs))
      where
        held : (b h : Bool) → b ≡ true → (b && not h) ≡ false → h ≡ true
        held true true e f = refl
        held true false e f = absurd (false≢true (sym f))
        held false h e f = absurd (false≢true e)

        by : {l n : ℕ} → l ≡ n → n ≢ 0 → (n ≡ 0) ⊎ ((n ≡ 2) ⊎ ((n ≡ 1) × (is_marked marks across ≡ true))) → l ≢ 2 → ⊥
        by e some (inl f) more = some f
        by e some (inr (inl f)) more = more (e ∙ f)
        by e some (inr (inr f)) more = unmarked f.1

  -- ---- each tetrahedron that had a cell leaves one that has it moved
  at_each : AllByRecursion (λ tet. has place_cmp a tet.corners ≡ true → At tet) tets
  at_each =
      all_two (λ tet. is_flat tet.corners ≡ false) (λ tet. has place_cmp a tet.corners ≡ true → has place_cmp v tet.corners ≡ false → AreOnOneSide (besides (a ∷ []) tet.corners) a v)
      (λ tet. has place_cmp a tet.corners ≡ true → At tet) (λ tet s k h. record { proper = s; corner = h; seen = k h }) tets solid can.seen

  module _ (places : List Coordinates) where
    -- what is so of a tetrahedron of the mesh
    record IsOne (tet : Tetrahedron) : Type 0 where
      proper : is_flat tet.corners ≡ false
      at : has place_cmp a tet.corners ≡ true → At tet
      comes_of : At tet → holds_all tet.corners (a ∷ []) ≡ true → list_any (has_wanted places) (fill a v tet) ≡ true → Found places
      stays : not (holds_all tet.corners (a ∷ [])) ≡ true → has_wanted places tet ≡ true → list_any (has_wanted places) (rest_of a tets) ≡ true
      one : (k : Tetrahedron → Bool) → k tet ≡ true → count_by k tets ≢ 0

    each_one : AllByRecursion IsOne tets
    each_one =
        all_two (λ tet. (is_flat tet.corners ≡ false) × (has place_cmp a tet.corners ≡ true → At tet))
        (λ tet. (At tet → holds_all tet.corners (a ∷ []) ≡ true → list_any (has_wanted places) (fill a v tet) ≡ true → Found places)
        × (not (holds_all tet.corners (a ∷ [])) ≡ true → has_wanted places tet ≡ true → list_any (has_wanted places) (rest_of a tets) ≡ true)
        × ((k : Tetrahedron → Bool) → k tet ≡ true → count_by k tets ≢ 0)) IsOne
        (λ tet s t. record { proper = s.0; at = s.1; comes_of = t.0; stays = t.1; one = t.2 }) tets
        (all_two _ _ _ (λ tet s t. (s, t)) tets solid at_each)
        (all_two _ _ _ (λ tet s t. (s, t.0, t.1)) tets (comes places)
        (all_two _ _ (λ tet. (not (holds_all tet.corners (a ∷ [])) ≡ true → has_wanted places tet ≡ true → list_any (has_wanted places) (rest_of a tets) ≡ true)
        × ((k : Tetrahedron → Bool) → k tet ≡ true → count_by k tets ≢ 0)) (λ tet s t. (s, t)) tets (in_filter (λ tet. not (holds_all tet.corners (a ∷ []))) (has_wanted places) tets) (counted tets)))

    found : (tet : Tetrahedron) → IsOne tet → holds_all tet.corners places ≡ true → Found places
    found tet is h = by (holds_all tet.corners (a ∷ [])) refl (has place_cmp v tet.corners) refl
      where
        each : AllByRecursion (λ p. has place_cmp p tet.corners ≡ true) places
        each = all_pass (λ p. has place_cmp p tet.corners) places h

        held : holds_all tet.corners (a ∷ []) ≡ true → has place_cmp a tet.corners ≡ true
        held e = sym (and_true (has place_cmp a tet.corners)) ∙ e

        stays_put : holds_all tet.corners (a ∷ []) ≡ false → (p : Coordinates) → has place_cmp p tet.corners ≡ true → (b : Bool) → eq_by_cmp place_cmp p a ≡ b → has place_cmp (cond b v p) tet.corners ≡ true
        stays_put e p k true f = absurd (false≢true (sym e ∙ and_true (has place_cmp a tet.corners) ∙ subst (λ q. has place_cmp q tet.corners ≡ true) (same_place p a f) k))
        stays_put e p k false f = k

        by : (s : Bool) → holds_all tet.corners (a ∷ []) ≡ s → (t : Bool) → has place_cmp v tet.corners ≡ t → Found places
        by false e t f =
            list_any-append (has_wanted places) (rest_of a tets) (flat_map (fill a v) (star_of (a ∷ []) tets))
            ∙ ap (λ b. b || list_any (has_wanted places) (flat_map (fill a v) (star_of (a ∷ []) tets)))
            (is.stays (ap not e) (wanted_there places tet.corners
            (all_weaker (λ p. has place_cmp p tet.corners ≡ true) (λ p. has place_cmp (to_v a v p) tet.corners ≡ true) (λ p k. stays_put e p k (eq_by_cmp place_cmp p a) refl) places each)))
        by true e false away =
            is.comes_of (is.at (held e)) e (filled_there places tet (is.at (held e)) away (all_weaker (λ p. has place_cmp p tet.corners ≡ true)
            (λ p. eq_by_cmp place_cmp p a ≡ false → eq_by_cmp place_cmp p v ≡ false → has place_cmp p tet.corners ≡ true) (λ p k _ _. k) places each))
        by true e true at_v =
            any_gives (λ t. on_it tet is.proper (held e) at_v is.one t && not (has place_cmp v t.corners)) (Found places) tets (all_weaker IsOne
            (λ t. (on_it tet is.proper (held e) at_v is.one t && not (has place_cmp v t.corners)) ≡ true → Found places) takes tets each_one) (other tet is.proper (held e) at_v is.one)
          where
            face : List Coordinates
            face = besides (v ∷ []) tet.corners

            takes : (t : Tetrahedron) → IsOne t → ((is_of tet.phys tet.elem t && has_face face t) && not (has place_cmp v t.corners)) ≡ true → Found places
            takes t one k =
                let parts = and_parts (is_of tet.phys tet.elem t && has_face face t) (not (has place_cmp v t.corners)) k in
                let has_it = (and_parts (is_of tet.phys tet.elem t) (has_face face t) parts.0).1 in
                let at_t = face_corner a t.corners face one.proper has_it (a_on tet is.proper (held e) at_v is.one) in
                one.comes_of (one.at at_t) (and_true (has place_cmp a t.corners) ∙ at_t)
                (filled_there places t (one.at at_t) (not-true (has place_cmp v t.corners) parts.1)
                (all_weaker (λ p. has place_cmp p tet.corners ≡ true) (λ p. eq_by_cmp place_cmp p a ≡ false → eq_by_cmp place_cmp p v ≡ false → has place_cmp p t.corners ≡ true)
                (λ p here _ off. face_corner p t.corners face one.proper has_it
                (has-filter place_cmp-IsAntisymmetric (λ q. not (has place_cmp q (v ∷ []))) p tet.corners ∙ ap₂ (λ s t. s && not (t || false)) here off)) places each))

  pub moved_are_on : list_all (λ m. is_on tets m.cell) marks ≡ true → list_all (λ n. is_on (after a v tets) n.cell) (moved_marks a v marks) ≡ true
  moved_are_on on =
      test_all (λ n. is_on (after a v tets) n.cell) (moved_marks a v marks)
      (all-ascending_of mark_cmp (λ n. is_on (after a v tets) n.cell ≡ true) (flat_map (moved_mark a v) marks)
      (all-flat_map (λ m. is_on tets m.cell ≡ true) (λ n. is_on (after a v tets) n.cell ≡ true) (moved_mark a v) each marks (all_pass (λ m. is_on tets m.cell) marks on)))
    where
      each : (m : CellMark) → is_on tets m.cell ≡ true → AllByRecursion (λ n. is_on (after a v tets) n.cell ≡ true) (moved_mark a v m)
      each m h =
          all_weaker (λ n. (is_cell n.cell ≡ true) × (corners_of n.cell ≡ ascending_of place_cmp (map (to_v a v) (corners_of m.cell)))) (λ n. is_on (after a v tets) n.cell ≡ true)
          (λ n k. subst (λ l. list_any (λ tet. holds_all tet.corners l) (after a v tets) ≡ true) (sym k.1)
          (any_gives (λ tet. holds_all tet.corners (corners_of m.cell)) (Found (corners_of m.cell)) tets
          (all_weaker (IsOne (corners_of m.cell)) (λ tet. holds_all tet.corners (corners_of m.cell) ≡ true → Found (corners_of m.cell)) (found (corners_of m.cell)) tets (each_one (corners_of m.cell))) h))
          (moved_mark a v m) (moved_corners a v m)
