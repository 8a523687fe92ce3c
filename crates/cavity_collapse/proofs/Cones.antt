-- The quality of a tetrahedron over a face, which the order of corners doesn't change.
use Rattle.std.proofs.Common.{◌≡◌, ◌≢◌, ℕ, ◌*◌, ◌/◌, ◌^◌, max, true, false, cond, not, ◌&&◌, ◌||◌, List, [], ◌∷◌, ◌++◌, length, eqb, Option, Some, None, refl, sym, ap, ◌∙◌, arith}
use Rattle.std.specs.Prelude.{ℤ, pos, neg_ℤ, unsigned_abs}
use Rattle.std.specs.List.Sorted.{IsPermutation}
use Rattle.std.specs.Option.{option_to_list}
use Rattle.std.proofs.lemmas.Bool.{false≢true}
use Rattle.std.proofs.lemmas.Int.{ints}
use Rattle.std.proofs.lemmas.List.Sorted.{IsPermutation-append_comm, IsPermutation-refl}
use Rattle.ma_geom.specs.Coordinates.{Coordinates, place_cmp}
use Rattle.ma_geom.specs.Lengths.{len2}
use Rattle.ma_geom.specs.Quality.{edge2, longest2, quality, quality_of, root}
use Rattle.ma_geom.specs.Signs.{same_sign, sign_of}
use Rattle.ma_geom.specs.Volume.{vol6}
use Rattle.ma_geom.specs.declared.signs.Sign.TheVariants.{Zero}
use Rattle.ma_geom.proofs.Identities.{vol6_exchange_ab, vol6_exchange_bc, vol6_exchange_cd}
use Rattle.ma_geom.proofs.PlaceOrder.{place_cmp_total}
use Rattle.ma_geom.proofs.Reified.{dot', minus', place, places}
use Rattle.ma_geom.proofs.Ring.{ring}
use Rattle.ma_cells.specs.Ascending.{are_distinct, ascending_of, has}
use Rattle.ma_cells.specs.Stars.{besides, cone}
use Rattle.ma_cells.specs.Tetrahedron.{Tetrahedron, is_flat}
use Rattle.ma_cells.proofs.Ascents.{length-ascending_of}
use Rattle.ma_cells.proofs.Corners.{sorted_corners}
use Rattle.ma_cells.proofs.FourPlaces.{OfFour, in_any_order}
use Rattle.ma_cells.proofs.Permutations.{ascending_of-permutes}
use Rattle.ma_cells.proofs.Pieces.{distinct_corners, four_corners, solid_in_any_order}
use Rattle.cavity_collapse.specs.Facing.{cone_qualities, cone_quality, facing_of}
use Rattle.cavity_collapse.specs.Steps.{lies_off}
use Rattle.cavity_collapse.proofs.Worsts.{new_tets, qualities}

-- ---- corners in any order
turned : (n m : ℤ) → m ≡ neg_ℤ n → unsigned_abs m ≡ unsigned_abs n
turned n m e = omega (arith, ints)

len2_exchange : (a b : Coordinates) → len2 b a ≡ len2 a b
unfolding len2
len2_exchange a b = ring (places (a ∷ b ∷ [])) (dot' (minus' (place 0) (place 1)) (minus' (place 0) (place 1))) (dot' (minus' (place 1) (place 0)) (minus' (place 1) (place 0))) tt

edge2_exchange : (a b : Coordinates) → edge2 b a ≡ edge2 a b
edge2_exchange a b = ap unsigned_abs (len2_exchange a b)

abbrev most : (p q r s t u : ℕ) → ℕ
most p q r s t u = max (max (max (max (max p q) r) s) t) u

most_ab : (p q r s t u : ℕ) → most p s t q r u ≡ most p q r s t u
most_ab p q r s t u = omega arith

most_bc : (p q r s t u : ℕ) → most q p r s u t ≡ most p q r s t u
most_bc p q r s t u = omega arith

most_cd : (p q r s t u : ℕ) → most p r q t s u ≡ most p q r s t u
most_cd p q r s t u = omega arith

longest2_ab : (a b c d : Coordinates) → longest2 b a c d ≡ longest2 a b c d
unfolding longest2
longest2_ab a b c d = ap (λ n. most n (edge2 b c) (edge2 b d) (edge2 a c) (edge2 a d) (edge2 c d)) (edge2_exchange a b) ∙ most_ab (edge2 a b) (edge2 a c) (edge2 a d) (edge2 b c) (edge2 b d) (edge2 c d)

longest2_bc : (a b c d : Coordinates) → longest2 a c b d ≡ longest2 a b c d
unfolding longest2
longest2_bc a b c d = ap (λ n. most (edge2 a c) (edge2 a b) (edge2 a d) n (edge2 c d) (edge2 b d)) (edge2_exchange b c) ∙ most_bc (edge2 a b) (edge2 a c) (edge2 a d) (edge2 b c) (edge2 b d) (edge2 c d)

longest2_cd : (a b c d : Coordinates) → longest2 a b d c ≡ longest2 a b c d
unfolding longest2
longest2_cd a b c d = ap (λ n. most (edge2 a b) (edge2 a d) (edge2 a c) (edge2 b d) (edge2 b c) n) (edge2_exchange c d) ∙ most_cd (edge2 a b) (edge2 a c) (edge2 a d) (edge2 b c) (edge2 b d) (edge2 c d)

by_parts : (a b c d w x y z : Coordinates) → vol6 w x y z ≡ neg_ℤ (vol6 a b c d) → longest2 w x y z ≡ longest2 a b c d → quality_of w x y z ≡ quality_of a b c d
unfolding quality_of
by_parts a b c d w x y z volume longest =
    let size : unsigned_abs (vol6 w x y z) ≡ unsigned_abs (vol6 a b c d) = turned (vol6 a b c d) (vol6 w x y z) volume in
    λ i. (2 ^ 30 * size i) / (longest i * root (longest i))

of_four : (n : ℕ) (corners : List Coordinates) → OfFour (λ a b c d. quality_of a b c d ≡ n) corners → quality corners ≡ n
of_four n [] h = absurd h
of_four n (a ∷ []) h = absurd h
of_four n (a ∷ b ∷ []) h = absurd h
of_four n (a ∷ b ∷ c ∷ []) h = absurd h
of_four n (a ∷ b ∷ c ∷ d ∷ []) h = h
of_four n (a ∷ b ∷ c ∷ d ∷ e ∷ l) h = absurd h

pub quality_in_any_order : (a b c d : Coordinates) (others : List Coordinates) → IsPermutation (a ∷ b ∷ c ∷ d ∷ []) others → quality others ≡ quality_of a b c d
quality_in_any_order a b c d others moved =
    of_four (quality_of a b c d) others
    (in_any_order (λ w x y z. quality_of w x y z ≡ quality_of a b c d)
    (λ w x y z h. by_parts w x y z x w y z (vol6_exchange_ab w x y z) (longest2_ab w x y z) ∙ h)
    (λ w x y z h. by_parts w x y z w y x z (vol6_exchange_bc w x y z) (longest2_bc w x y z) ∙ h)
    (λ w x y z h. by_parts w x y z w x z y (vol6_exchange_cd w x y z) (longest2_cd w x y z) ∙ h)
    a b c d others moved refl)

-- ---- the tetrahedron from v over a face
solid_off : (n : ℤ) → not (same_sign (sign_of n) Zero) ≡ true → n ≢ pos 0
solid_off n off e = false≢true (ap (λ n. not (same_sign (sign_of n) Zero)) (sym e) ∙ off)

solid_over : (v x y z : Coordinates) → has place_cmp v (x ∷ y ∷ z ∷ []) ≡ false → lies_off v (x ∷ y ∷ z ∷ []) ≡ true → vol6 x y z v ≢ pos 0
solid_over v x y z gone off = solid_off (vol6 x y z v) (sym (ap (λ b. b || not (same_sign (sign_of (vol6 x y z v)) Zero)) gone) ∙ off)

cone_over : (v x y z : Coordinates) → vol6 x y z v ≢ pos 0 → Some (quality (x ∷ y ∷ z ∷ v ∷ [])) ≡ cone_quality v (x ∷ y ∷ z ∷ [])
cone_over v x y z solid =
    let set = ascending_of place_cmp (x ∷ y ∷ z ∷ v ∷ []) in
    let moved : IsPermutation (x ∷ y ∷ z ∷ v ∷ []) set = ascending_of-permutes (x ∷ y ∷ z ∷ v ∷ []) (distinct_corners x y z v solid) in
    let same_set : ascending_of place_cmp (v ∷ x ∷ y ∷ z ∷ []) ≡ set = sorted_corners (v ∷ x ∷ y ∷ z ∷ []) (x ∷ y ∷ z ∷ v ∷ []) (IsPermutation-append_comm (v ∷ []) (x ∷ y ∷ z ∷ [])) in
    sym (ap (λ corners. cond (is_flat corners) None (Some (quality corners))) same_set
    ∙ ap (λ b. cond b None (Some (quality set))) (solid_in_any_order x y z v set moved solid) ∙ ap Some (quality_in_any_order x y z v set moved))

-- what isn't four is flat
fewer_flat : (corners : List Coordinates) → eqb (length corners) 4 ≡ false → is_flat corners ≡ true
fewer_flat corners h =
    elim (is_flat corners) as (λ b. is_flat corners ≡ b → b ≡ true) [
      | true ↦ λ _. refl
      | false ↦ λ e. absurd (false≢true (sym h ∙ ap (λ n. eqb n 4) (four_corners corners e)))
    ] refl

-- there is none over a face that has v
no_cone : (v x y z : Coordinates) → has place_cmp v (x ∷ y ∷ z ∷ []) ≡ true → ◌≡◌ {A = Option ℕ} None (cone_quality v (x ∷ y ∷ z ∷ []))
no_cone v x y z there =
    let corners = ascending_of place_cmp (v ∷ x ∷ y ∷ z ∷ []) in
    let fewer : eqb (length corners) 4 ≡ false = (length-ascending_of place_cmp_total (v ∷ x ∷ y ∷ z ∷ [])).1 ∙ ap (λ b. not b && are_distinct place_cmp (x ∷ y ∷ z ∷ [])) there in
    ap (λ b. cond b None (Some (quality corners))) (sym (fewer_flat corners fewer))

-- ---- the same of a face as a list
module _ (v x y z : Coordinates) (face : List Coordinates) (is : x ∷ y ∷ z ∷ [] ≡ face) (gone : has place_cmp v face ≡ false) (off : lies_off v face ≡ true) where
  solid : vol6 x y z v ≢ pos 0
  solid = solid_over v x y z (ap (has place_cmp v) is ∙ gone) (ap (lies_off v) is ∙ off)

  pub at_four : is_flat (x ∷ y ∷ z ∷ v ∷ []) ≡ false
  at_four = solid_in_any_order x y z v (x ∷ y ∷ z ∷ v ∷ []) (IsPermutation-refl (x ∷ y ∷ z ∷ v ∷ [])) solid

  pub cone_from : Some (quality (x ∷ y ∷ z ∷ v ∷ [])) ≡ cone_quality v face
  cone_from = cone_over v x y z solid ∙ ap (cone_quality v) is

pub no_cone_from : (v : Coordinates) (face : List Coordinates) → length face ≡ 3 → has place_cmp v face ≡ true → ◌≡◌ {A = Option ℕ} None (cone_quality v face)
no_cone_from v [] n there = absurd (omega (arith, n))
no_cone_from v (x ∷ []) n there = absurd (omega (arith, n))
no_cone_from v (x ∷ y ∷ []) n there = absurd (omega (arith, n))
no_cone_from v (x ∷ y ∷ z ∷ []) n there = no_cone v x y z there
no_cone_from v (x ∷ y ∷ z ∷ t ∷ face) n there = absurd (omega (arith, n))

-- ---- what is over faces, by its qualities
pub next_cone : (v : Coordinates) (phys elem : ℤ) (face : List Coordinates) (ns : List ℕ) (tets : List Tetrahedron) → ns ≡ qualities tets
    → option_to_list (cone_quality v face) ++ ns ≡ qualities (cone v phys elem face ++ tets)
next_cone v phys elem face ns tets e =
    let corners = ascending_of place_cmp (v ∷ face) in
    elim (is_flat corners) as (λ b. option_to_list (cond b None (Some (quality corners))) ++ ns ≡ qualities (option_to_list (cond b None (Some (record { corners = corners; phys = phys; elem = elem }))) ++ tets)) [
      | true ↦ e
      | false ↦ ap (λ l. quality corners ∷ l) e
    ]

-- what fills the star of a, by the faces across from it
pub qualities_facing : (a v : Coordinates) (star : List Tetrahedron) → cone_qualities v (facing_of star a) ≡ qualities (new_tets a v star)
qualities_facing a v [] = refl
qualities_facing a v (tet ∷ star) = next_cone v tet.phys tet.elem (besides (a ∷ []) tet.corners) (cone_qualities v (facing_of star a)) (new_tets a v star) (qualities_facing a v star)
