-- The faces of the halves of a tetrahedron are the halves of its faces, but for one between them that is listed twice.
use Rattle.std.proofs.Common.{◌≡◌, ◌≢◌, zero, suc, ℕ, Bool, true, false, cond, ◌&&◌, ◌||◌, List, [], ◌∷◌, refl, sym, ap, ap₂, ◌∙◌}
use Rattle.std.specs.Prelude.{map, not, pos}
use Rattle.std.specs.List.{AllByRecursion, flat_map}
use Rattle.std.specs.List.Sorted.{IsPermutation}
use Rattle.std.specs.Ordering.{eq_by_cmp}
use Rattle.std.proofs.lemmas.Bool.{and_parts, false≢true, or_right}
use Rattle.ma_geom.specs.Coordinates.{Coordinates, place_cmp}
use Rattle.ma_geom.specs.Rational.{IsMiddle}
use Rattle.ma_geom.specs.Volume.{vol6}
use Rattle.ma_geom.proofs.Identities.{vol6_same_ac, vol6_same_ad, vol6_same_bc, vol6_same_bd}
use Rattle.ma_geom.proofs.PlaceOrder.{place_cmp-IsAntisymmetric, place_cmp_total}
use Rattle.ma_cells.specs.Ascending.{are_ascending, ascending_of, has}
use Rattle.ma_cells.specs.Bisection.{bisect, replaced}
use Rattle.ma_cells.specs.Faces.{choices, faces_of, holds_all}
use Rattle.ma_cells.specs.Tetrahedron.{are_corners}
use Rattle.ma_cells.proofs.Ascents.{has-ascending_of, same_sorted, sorted-ascending_of}
use Rattle.ma_cells.proofs.Bisections.{bisect-with, has-replaced}
use Rattle.ma_cells.proofs.Choices.{all-append, choices-ascend}
use Rattle.ma_cells.proofs.Corners.{ascending_is, corners_rise}
use Rattle.ma_cells.proofs.FourPlaces.{OfFour, in_any_order}
use Rattle.ma_cells.proofs.Passing.{all-flat_map, all-map, all_pass, all_weaker}
use Rattle.ma_cells.proofs.Permutations.{apart, tied}
use Rattle.ma_cells.proofs.Pieces.{has_edge, replaced_first, replaced_second}
use Rattle.mesh_laws.proofs.Listings.{same}
use Rattle.mesh_laws.proofs.Oddly.{odd-each, odd-flat_map, odd_of, xor}
use Rattle.refinement.proofs.Bisecting.{bisect-without}
use Rattle.refinement.proofs.Covered.{AreCorners, halves_are_corners}
use Rattle.refinement.proofs.Rising.{Rises, bisect_rises}

abbrev eq : Coordinates → Coordinates → Bool
eq = eq_by_cmp place_cmp

-- ---- the faces of corners in any order
swapped : (s t r : Bool) → (t || (s || r)) ≡ (s || (t || r))
swapped true true r = refl
swapped true false r = refl
swapped false true r = refl
swapped false false r = refl

turned : (s t r : Bool) → xor t (xor s r) ≡ xor s (xor t r)
turned true true r = refl
turned true false r = refl
turned false true r = refl
turned false false r = refl

-- a test of three places that knows only which places they are
abbrev KnowsPlaces : (List Coordinates → Bool) → Type 0
KnowsPlaces f = (xs ys : List Coordinates) → ((q : Coordinates) → has place_cmp q xs ≡ has place_cmp q ys) → f xs ≡ f ys

module _ (f : List Coordinates → Bool) (knows : KnowsPlaces f) where
  of_ab : (x y z : Coordinates) → f (x ∷ y ∷ z ∷ []) ≡ f (y ∷ x ∷ z ∷ [])
  of_ab x y z = knows (x ∷ y ∷ z ∷ []) (y ∷ x ∷ z ∷ []) (λ q. swapped (eq q y) (eq q x) (eq q z || false))

  of_bc : (x y z : Coordinates) → f (x ∷ y ∷ z ∷ []) ≡ f (x ∷ z ∷ y ∷ [])
  of_bc x y z = knows (x ∷ y ∷ z ∷ []) (x ∷ z ∷ y ∷ []) (λ q. ap (λ b. eq q x || b) (swapped (eq q z) (eq q y) false))

  module _ (h : Bool) where
    abbrev Faces : Coordinates → Coordinates → Coordinates → Coordinates → Type 0
    Faces a b c d = odd_of f (faces_of (a ∷ b ∷ c ∷ d ∷ [])) ≡ h

    -- abc, abd, acd, bcd
    exchange_ab : (a b c d : Coordinates) → Faces a b c d → Faces b a c d
    exchange_ab a b c d e = four (f (b ∷ a ∷ c ∷ [])) (f (b ∷ a ∷ d ∷ [])) (f (b ∷ c ∷ d ∷ [])) (f (a ∷ c ∷ d ∷ [])) _ _ (of_ab a b c) (of_ab a b d) e
      where
        four : (s t u v s' t' : Bool) → s' ≡ s → t' ≡ t → xor s' (xor t' (xor v (xor u false))) ≡ h → xor s (xor t (xor u (xor v false))) ≡ h
        four s t u v s' t' i j k = rw (← i, ← j) (ap (λ b. xor s' (xor t' b)) (turned v u false) ∙ k)

    exchange_bc : (a b c d : Coordinates) → Faces a b c d → Faces a c b d
    exchange_bc a b c d e = four (f (a ∷ c ∷ b ∷ [])) (f (a ∷ c ∷ d ∷ [])) (f (a ∷ b ∷ d ∷ [])) (f (c ∷ b ∷ d ∷ [])) _ _ (of_bc a b c) (of_ab b c d) e
      where
        four : (s t u v s' v' : Bool) → s' ≡ s → v' ≡ v → xor s' (xor u (xor t (xor v' false))) ≡ h → xor s (xor t (xor u (xor v false))) ≡ h
        four s t u v s' v' i j k = rw (← i, ← j) (ap (λ b. xor s' b) (turned u t (xor v' false)) ∙ k)

    exchange_cd : (a b c d : Coordinates) → Faces a b c d → Faces a b d c
    exchange_cd a b c d e = four (f (a ∷ b ∷ d ∷ [])) (f (a ∷ b ∷ c ∷ [])) (f (a ∷ d ∷ c ∷ [])) (f (b ∷ d ∷ c ∷ [])) _ _ (of_bc a c d) (of_bc b c d) e
      where
        four : (s t u v u' v' : Bool) → u' ≡ u → v' ≡ v → xor t (xor s (xor u' (xor v' false))) ≡ h → xor s (xor t (xor u (xor v false))) ≡ h
        four s t u v u' v' i j k = rw (← i, ← j) (turned t s (xor u' (xor v' false)) ∙ k)

    of_four : (corners : List Coordinates) → OfFour Faces corners → odd_of f (faces_of corners) ≡ h
    of_four (a ∷ b ∷ c ∷ d ∷ []) e = e
    of_four [] e = absurd e
    of_four (a ∷ []) e = absurd e
    of_four (a ∷ b ∷ []) e = absurd e
    of_four (a ∷ b ∷ c ∷ []) e = absurd e
    of_four (a ∷ b ∷ c ∷ d ∷ x ∷ l) e = absurd e

  faces_in_any_order : (a b c d : Coordinates) (corners : List Coordinates) → IsPermutation (a ∷ b ∷ c ∷ d ∷ []) corners
      → odd_of f (faces_of corners) ≡ odd_of f (faces_of (a ∷ b ∷ c ∷ d ∷ []))
  faces_in_any_order a b c d corners moved =
      let h = odd_of f (faces_of (a ∷ b ∷ c ∷ d ∷ [])) in
      of_four h corners (in_any_order (Faces h) (exchange_ab h) (exchange_bc h) (exchange_cd h) a b c d corners moved refl)

-- ---- seven tests
abbrev both : (Bool → Bool) → Bool
both f = f true && f false

both_pass : (f : Bool → Bool) → both f ≡ true → (b : Bool) → f b ≡ true
both_pass f h true = (and_parts (f true) (f false) h).0
both_pass f h false = (and_parts (f true) (f false) h).1

of_seven : Bool → Bool → Bool → Bool → Bool → Bool → Bool → Bool
of_seven r s t u v w x =
    not (xor (xor (xor r (xor s false)) (xor (xor t (xor u false)) (xor (xor v false) (xor (xor w false) false)))) (xor (xor r (xor t (xor x (xor w false)))) (xor (xor s (xor u (xor v (xor x false)))) false)))

all_seven : both (λ r. both (λ s. both (λ t. both (λ u. both (λ v. both (λ w. both (of_seven r s t u v w))))))) ≡ true
unfolding of_seven
all_seven = refl

-- mbc, amc, mbd, amd, acd, bcd, mcd
seven : (r s t u v w x : Bool) → xor (xor r (xor s false)) (xor (xor t (xor u false)) (xor (xor v false) (xor (xor w false) false))) ≡ xor (xor r (xor t (xor x (xor w false)))) (xor (xor s (xor u (xor v (xor x false)))) false)
unfolding of_seven
seven r s t u v w x =
    equal _ _ (both_pass (of_seven r s t u v w) (both_pass (λ w. both (of_seven r s t u v w)) (both_pass (λ v. both (λ w. both (of_seven r s t u v w))) (both_pass (λ u. both (λ v. both (λ w. both (of_seven r s t u v w)))) (both_pass (λ t. both (λ u. both (λ v. both (λ w. both (of_seven r s t u v w))))) (both_pass (λ s. both (λ t. both (λ u. both (λ v. both (λ w. both (of_seven r s t u v w)))))) (both_pass (λ r. both (λ s. both (λ t. both (λ u. both (λ v. both (λ w. both (of_seven r s t u v w))))))) all_seven r) s) t) u) v) w) x)
  where
    equal : (p q : Bool) → not (xor p q) ≡ true → p ≡ q
    equal true true h = refl
    equal true false h = absurd (false≢true h)
    equal false true h = absurd (false≢true h)
    equal false false h = refl

-- ---- corners that span a volume differ
differ_ac : (a b c d : Coordinates) → vol6 a b c d ≢ pos 0 → a ≢ c
differ_ac a b c d spans e = spans (ap (λ t. vol6 a b t d) (sym e) ∙ vol6_same_ac a b d)

differ_ad : (a b c d : Coordinates) → vol6 a b c d ≢ pos 0 → a ≢ d
differ_ad a b c d spans e = spans (ap (λ t. vol6 a b c t) (sym e) ∙ vol6_same_ad a b c)

differ_bc : (a b c d : Coordinates) → vol6 a b c d ≢ pos 0 → b ≢ c
differ_bc a b c d spans e = spans (ap (λ t. vol6 a b t d) (sym e) ∙ vol6_same_bc a b d)

differ_bd : (a b c d : Coordinates) → vol6 a b c d ≢ pos 0 → b ≢ d
differ_bd a b c d spans e = spans (ap (λ t. vol6 a b c t) (sym e) ∙ vol6_same_bd a b c)

-- ---- what is chosen has no other places
abbrev pub IsWithin : List Coordinates → List Coordinates → Type 0
IsWithin corners f = (q : Coordinates) → has place_cmp q f ≡ true → has place_cmp q corners ≡ true

pub within_choices : (n : ℕ) (xs : List Coordinates) → AllByRecursion (IsWithin xs) (choices n xs)
within_choices zero xs = ((λ q h. absurd (false≢true h)), tt)
within_choices (suc n) [] = tt
within_choices (suc n) (x ∷ xs) =
    all-append (IsWithin (x ∷ xs)) (map (λ f. x ∷ f) (choices n xs)) (choices (suc n) xs)
    (all-map (IsWithin xs) (IsWithin (x ∷ xs)) (λ f. x ∷ f) (λ f within q. by (eq q x) (within q)) (choices n xs) (within_choices n xs))
    (all_weaker (IsWithin xs) (IsWithin (x ∷ xs)) (λ f within q h. or_right (eq q x) (has place_cmp q xs) (within q h)) (choices (suc n) xs) (within_choices (suc n) xs))
  where
    by : (b : Bool) {s t : Bool} → (s ≡ true → t ≡ true) → (b || s) ≡ true → (b || t) ≡ true
    by true k h = refl
    by false k h = k h

pub within_faces : (corners : List Coordinates) → AllByRecursion (IsWithin corners) (faces_of corners)
within_faces corners = within_choices 3 corners

-- without the edge
pub lacks : (a b : Coordinates) (f corners : List Coordinates) → IsWithin corners f → holds_all corners (a ∷ b ∷ []) ≡ false → holds_all f (a ∷ b ∷ []) ≡ false
lacks a b f corners within none = by (has place_cmp a f) (has place_cmp b f) _ _ (within a) (within b) none
  where
    by : (s t u v : Bool) → (s ≡ true → u ≡ true) → (t ≡ true → v ≡ true) → (u && (v && true)) ≡ false → (s && (t && true)) ≡ false
    by true true u v i j h = absurd (false≢true (sym h ∙ rw (i refl, j refl) refl))
    by true false u v i j h = refl
    by false t u v i j h = refl

-- ---- one tetrahedron
module _ (g : List Coordinates) where
  -- whether g are these places, put in order
  abbrev is_it : List Coordinates → Bool
  is_it f = same g (ascending_of place_cmp f)

  is_it_knows : KnowsPlaces is_it
  is_it_knows xs ys alike =
      ap (same g) (same_sorted place_cmp_total place_cmp-IsAntisymmetric (ascending_of place_cmp xs) (ascending_of place_cmp ys) (sorted-ascending_of place_cmp_total xs) (sorted-ascending_of place_cmp_total ys)
      (λ q. has-ascending_of place_cmp_total q xs ∙ alike q ∙ sym (has-ascending_of place_cmp_total q ys)))

  in_order : (xs : List (List Coordinates)) → AllByRecursion Rises xs → odd_of (same g) xs ≡ odd_of is_it xs
  in_order xs rise = odd-each (same g) is_it xs (all_weaker Rises (λ f. same g f ≡ is_it f) (λ f up. ap (same g) (sym (ascending_is f up))) xs rise)

  module _ (m a b : Coordinates) where
    abbrev halves_are_it : List Coordinates → Bool
    halves_are_it f = odd_of is_it (bisect a b m f)

    halves_know : KnowsPlaces halves_are_it
    halves_know xs ys alike = shape xs ∙ (λ i. cond (held i) (xor (half a i) (xor (half b i) false)) (xor (is_it_knows xs ys alike i) false)) ∙ sym (shape ys)
      where
        shape : (f : List Coordinates) → halves_are_it f ≡ cond (holds_all f (a ∷ b ∷ [])) (xor (is_it (replaced a m f)) (xor (is_it (replaced b m f)) false)) (xor (is_it f) false)
        shape f = elim (holds_all f (a ∷ b ∷ [])) as (λ t. odd_of is_it (cond t (replaced a m f ∷ replaced b m f ∷ []) (f ∷ [])) ≡ cond t (xor (is_it (replaced a m f)) (xor (is_it (replaced b m f)) false)) (xor (is_it f) false)) [
          | true ↦ refl
          | false ↦ refl
        ]

        held : holds_all xs (a ∷ b ∷ []) ≡ holds_all ys (a ∷ b ∷ [])
        held = ap₂ (λ s t. s && (t && true)) (alike a) (alike b)

        half : (e : Coordinates) → is_it (replaced e m xs) ≡ is_it (replaced e m ys)
        half e = is_it_knows (replaced e m xs) (replaced e m ys) (λ q. has-replaced q e m xs ∙ ap₂ (λ s t. (eq q m && s) || (t && not (eq q e))) (alike e) (alike q) ∙ sym (has-replaced q e m ys))

    -- a half, by its places in any order
    placed : (e : Coordinates) (f places : List Coordinates) → map (λ p. cond (eq e p) m p) f ≡ places → is_it (replaced e m f) ≡ is_it places
    placed e f places is = is_it_knows (replaced e m f) places (λ q. has-ascending_of place_cmp_total q (map (λ p. cond (eq e p) m p) f) ∙ ap (has place_cmp q) is)

    module _ (c d : Coordinates) (ab : a ≢ b) (ac : a ≢ c) (ad : a ≢ d) (bc : b ≢ c) (bd : b ≢ d) where
      back : (p q : Coordinates) → p ≢ q → eq q p ≡ false
      back p q differ = apart q p (λ e. differ (sym e))

      at_abc : halves_are_it (a ∷ b ∷ c ∷ []) ≡ xor (is_it (m ∷ b ∷ c ∷ [])) (xor (is_it (a ∷ m ∷ c ∷ [])) false)
      at_abc = ap (odd_of is_it) (bisect-with a b m (a ∷ b ∷ c ∷ []) (rw (tied a, back a b ab, tied b) refl))
          ∙ ap₂ (λ s t. xor s (xor t false)) (placed a (a ∷ b ∷ c ∷ []) (m ∷ b ∷ c ∷ []) (rw (tied a, apart a b ab, apart a c ac) refl)) (placed b (a ∷ b ∷ c ∷ []) (a ∷ m ∷ c ∷ []) (rw (back a b ab, tied b, apart b c bc) refl))

      at_abd : halves_are_it (a ∷ b ∷ d ∷ []) ≡ xor (is_it (m ∷ b ∷ d ∷ [])) (xor (is_it (a ∷ m ∷ d ∷ [])) false)
      at_abd = ap (odd_of is_it) (bisect-with a b m (a ∷ b ∷ d ∷ []) (rw (tied a, back a b ab, tied b) refl))
          ∙ ap₂ (λ s t. xor s (xor t false)) (placed a (a ∷ b ∷ d ∷ []) (m ∷ b ∷ d ∷ []) (rw (tied a, apart a b ab, apart a d ad) refl)) (placed b (a ∷ b ∷ d ∷ []) (a ∷ m ∷ d ∷ []) (rw (back a b ab, tied b, apart b d bd) refl))

      at_acd : halves_are_it (a ∷ c ∷ d ∷ []) ≡ xor (is_it (a ∷ c ∷ d ∷ [])) false
      at_acd = ap (odd_of is_it) (bisect-without a b m (a ∷ c ∷ d ∷ []) (rw (tied a, back a b ab, apart b c bc, apart b d bd) refl))

      at_bcd : halves_are_it (b ∷ c ∷ d ∷ []) ≡ xor (is_it (b ∷ c ∷ d ∷ [])) false
      at_bcd = ap (odd_of is_it) (bisect-without a b m (b ∷ c ∷ d ∷ []) (rw (apart a b ab, apart a c ac, apart a d ad) refl))

      halved_faces : odd_of halves_are_it (faces_of (a ∷ b ∷ c ∷ d ∷ [])) ≡ xor (odd_of is_it (faces_of (m ∷ b ∷ c ∷ d ∷ []))) (xor (odd_of is_it (faces_of (a ∷ m ∷ c ∷ d ∷ []))) false)
      halved_faces =
          (λ i. xor (at_abc i) (xor (at_abd i) (xor (at_acd i) (xor (at_bcd i) false))))
          ∙ seven (is_it (m ∷ b ∷ c ∷ [])) (is_it (a ∷ m ∷ c ∷ [])) (is_it (m ∷ b ∷ d ∷ [])) (is_it (a ∷ m ∷ d ∷ [])) (is_it (a ∷ c ∷ d ∷ [])) (is_it (b ∷ c ∷ d ∷ [])) (is_it (m ∷ c ∷ d ∷ []))

  bisected_oddly : (m a b : Coordinates) (corners : List Coordinates) → IsMiddle m a b → a ≢ b → are_corners corners ≡ true
      → odd_of is_it (flat_map faces_of (bisect a b m corners)) ≡ odd_of is_it (flat_map (bisect a b m) (faces_of corners))
  bisected_oddly m a b corners middle differ are =
      elim (holds_all corners (a ∷ b ∷ [])) as (λ t. holds_all corners (a ∷ b ∷ []) ≡ t → odd_of is_it (flat_map faces_of (bisect a b m corners)) ≡ odd_of is_it (flat_map (bisect a b m) (faces_of corners))) [
        | true ↦ λ there.
            let edge = has_edge a b corners differ are there in
            let s = edge.solid in
            let c = edge.c in
            let d = edge.d in
            ap (λ parts. odd_of is_it (flat_map faces_of parts)) (bisect-with a b m corners there)
            ∙ odd-flat_map is_it faces_of (replaced a m corners ∷ replaced b m corners ∷ [])
            ∙ ap₂ (λ s t. xor s (xor t false))
            (faces_in_any_order is_it is_it_knows m b c d (replaced a m corners) (replaced_first m a b c d corners edge.order middle s))
            (faces_in_any_order is_it is_it_knows a m c d (replaced b m corners) (replaced_second m a b c d corners edge.order middle s))
            ∙ sym (halved_faces m a b c d differ (differ_ac a b c d s) (differ_ad a b c d s) (differ_bc a b c d s) (differ_bd a b c d s))
            ∙ sym (faces_in_any_order (halves_are_it m a b) (halves_know m a b) a b c d corners edge.order)
            ∙ sym (odd-flat_map is_it (bisect a b m) (faces_of corners))
        | false ↦ λ none.
            ap (λ parts. odd_of is_it (flat_map faces_of parts)) (bisect-without a b m corners none)
            ∙ odd-flat_map is_it faces_of (corners ∷ [])
            ∙ last (odd_of is_it (faces_of corners))
            ∙ sym (odd-flat_map is_it (bisect a b m) (faces_of corners) ∙ odd-each (halves_are_it m a b) is_it (faces_of corners)
            (all_weaker (λ f. (q : Coordinates) → has place_cmp q f ≡ true → has place_cmp q corners ≡ true) (λ f. halves_are_it m a b f ≡ is_it f)
            (λ f within. ap (odd_of is_it) (bisect-without a b m f (lacks a b f corners within none)) ∙ last (is_it f)) (faces_of corners) (within_faces corners)))
      ] refl
    where
      last : (b : Bool) → xor b false ≡ b
      last true = refl
      last false = refl

-- the faces of the halves, and the halves of the faces
pub faces_rise : (corners : List Coordinates) → AreCorners corners → AllByRecursion Rises (faces_of corners)
faces_rise corners are = all_pass (are_ascending place_cmp) (faces_of corners) (choices-ascend place_cmp_total 3 corners (corners_rise corners are))

pub halves_keep_parity : (m a b : Coordinates) → IsMiddle m a b → a ≢ b → (corners : List Coordinates) → AreCorners corners
    → (g : List Coordinates) → odd_of (same g) (flat_map faces_of (bisect a b m corners)) ≡ odd_of (same g) (flat_map (bisect a b m) (faces_of corners))
halves_keep_parity m a b middle differ corners are g =
    in_order g (flat_map faces_of (bisect a b m corners)) (all-flat_map AreCorners Rises faces_of faces_rise (bisect a b m corners) (halves_are_corners m a b middle differ corners are))
    ∙ bisected_oddly g m a b corners middle differ are
    ∙ sym (in_order g (flat_map (bisect a b m) (faces_of corners)) (all-flat_map Rises Rises (bisect a b m) (bisect_rises a b m) (faces_of corners) (faces_rise corners are)))
