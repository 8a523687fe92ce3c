-- A face is balanced where two tetrahedra have it, on both sides of it.
use Rattle.std.proofs.Common.{◌≡◌, ◌≢◌, ◌⊎◌, inl, inr, ◌≤◌, Bool, true, false, cond, ◌||◌, List, [], ◌∷◌, ◌++◌, filter, length, refl, sym, ap, ap₂, subst, ◌∙◌, arith}
use Rattle.std.specs.Prelude.{ℤ, pos, negsuc, ◌+ℤ◌, neg_ℤ, map}
use Rattle.std.specs.Cmp.Lexicographic.{slice_cmp}
use Rattle.std.specs.List.{AllByRecursion, flat_map}
use Rattle.std.specs.List.Sorted.{IsPermutation}
use Rattle.std.proofs.lemmas.Bool.{or_parts, true≢false}
use Rattle.std.proofs.lemmas.Int.{ints}
use Rattle.std.proofs.lemmas.List.Kept.{AllPairs-filter}
use Rattle.std.proofs.lemmas.List.Sorted.{IsPermutation-append_comm, IsPermutation-cons, IsPermutation-refl}
use Rattle.std.proofs.lemmas.List.Sums.{length-filter}
use Rattle.ma_geom.specs.Coordinates.{Coordinates, place_cmp}
use Rattle.ma_geom.specs.Lines.{is_flat}
use Rattle.ma_geom.specs.Volume.{vol6}
use Rattle.ma_cells.specs.Ascending.{are_distinct, has}
use Rattle.ma_cells.specs.Faces.{faces_of}
use Rattle.ma_cells.proofs.Permutations.{alone}
use Rattle.ma_cover.specs.Sound.{LieOnBothSides}
use Rattle.mesh_laws.proofs.BothSides.{Pairs, pairs_from}
use Rattle.mesh_laws.proofs.Listings.{faces_distinct, same, same_is}
use Rattle.mesh_laws.proofs.Weights.{by_four, some_a, some_b, some_c}
use Rattle.cavity_laws.specs.Balance.{FacesAreBalanced}
use Rattle.cavity_laws.specs.Cavity.{Facet, balance, facets_of, side_number, total}
use Rattle.cavity_laws.proofs.Totals.{sgn_alike, sgn_some, sgn_turned, total-append}

-- ---- one tetrahedron
-- that a facet is one of a tetrahedron with these corners, and its corner across isn't in its plane
abbrev pub IsFacetOf : List Coordinates → Facet → Type 0
IsFacetOf corners x = IsPermutation (x.face ++ x.across ∷ []) corners × ((side_number x.face x.across ≡ pos 1) ⊎ (side_number x.face x.across ≡ negsuc 0))

pub facets_are : (corners : List Coordinates) → is_flat corners ≡ false → AllByRecursion (IsFacetOf corners) (facets_of corners)
facets_are = by_four (λ corners. AllByRecursion (IsFacetOf corners) (facets_of corners)) (λ a b c d solid. (
  (IsPermutation-refl (a ∷ b ∷ c ∷ d ∷ []), sgn_some (vol6 a b c d) solid),
  (
    (IsPermutation-cons a (b ∷ d ∷ c ∷ []) (b ∷ c ∷ d ∷ []) (IsPermutation-cons b (d ∷ c ∷ []) (c ∷ d ∷ []) (IsPermutation-append_comm (d ∷ []) (c ∷ []))), sgn_some (vol6 a b d c) (some_c a b c d solid)),
    (
      (IsPermutation-cons a (c ∷ d ∷ b ∷ []) (b ∷ c ∷ d ∷ []) (IsPermutation-append_comm (c ∷ d ∷ []) (b ∷ [])), sgn_some (vol6 a c d b) (some_b a b c d solid)),
      ((IsPermutation-append_comm (b ∷ c ∷ d ∷ []) (a ∷ []), sgn_some (vol6 b c d a) (some_a a b c d solid)), tt),
    ),
  ),
))

faces_are : (corners : List Coordinates) → is_flat corners ≡ false → map (λ x. x.face) (facets_of corners) ≡ faces_of corners
faces_are = by_four (λ corners. map (λ x. x.face) (facets_of corners) ≡ faces_of corners) (λ a b c d solid. refl)

-- a face that none of some facets has is balanced
none_has : (face : List Coordinates) (facets : List Facet) → has (slice_cmp place_cmp) face (map (λ x. x.face) facets) ≡ false → balance face facets ≡ pos 0
none_has face [] none = refl
none_has face (x ∷ facets) none =
    let parts = or_parts (same face x.face) (has (slice_cmp place_cmp) face (map (λ y. y.face) facets)) none in
    ap₂ (λ (b : Bool) t. cond b (side_number x.face x.across) (pos 0) +ℤ t) parts.0 (none_has face facets parts.1)

-- of distinct faces one alone is it
one_has : (P : Facet → Type 0) (face : List Coordinates) (facets : List Facet) → are_distinct (slice_cmp place_cmp) (map (λ x. x.face) facets) ≡ true → AllByRecursion P facets
    → has (slice_cmp place_cmp) face (map (λ x. x.face) facets) ≡ true → (x : Facet) × P x × (face ≡ x.face) × (balance face facets ≡ side_number x.face x.across)
one_has P face [] distinct all there = absurd (true≢false (sym there))
one_has P face (x ∷ facets) distinct all there =
    let first = alone (has (slice_cmp place_cmp) x.face (map (λ y. y.face) facets)) (are_distinct (slice_cmp place_cmp) (map (λ y. y.face) facets)) distinct in
    by first.0 (one_has P face facets first.1 all.1) (same face x.face) refl there
  where
    right : (s t : ℤ) → t ≡ pos 0 → s +ℤ t ≡ s
    right s t e = omega (arith, ints)

    left : (t : ℤ) → pos 0 +ℤ t ≡ t
    left t = omega (arith, ints)

    by : has (slice_cmp place_cmp) x.face (map (λ y. y.face) facets) ≡ false
        → (has (slice_cmp place_cmp) face (map (λ y. y.face) facets) ≡ true → (y : Facet) × P y × (face ≡ y.face) × (balance face facets ≡ side_number y.face y.across))
        → (b : Bool) → same face x.face ≡ b → (b || has (slice_cmp place_cmp) face (map (λ y. y.face) facets)) ≡ true
        → (y : Facet) × P y × (face ≡ y.face) × (balance face (x ∷ facets) ≡ side_number y.face y.across)
    by alone rest true e h =
        let is = same_is face x.face e in (
          x,
          all.0,
          is,
          ap (λ b. cond b (side_number x.face x.across) (pos 0) +ℤ balance face facets) e
              ∙ right (side_number x.face x.across) (balance face facets) (none_has face facets (subst (λ f. has (slice_cmp place_cmp) f (map (λ y. y.face) facets) ≡ false) (sym is) alone)),
        )
    by alone rest false e h =
        let one = rest h in
        (one.0, one.1, one.2, ap (λ b. cond b (side_number x.face x.across) (pos 0) +ℤ balance face facets) e ∙ left (balance face facets) ∙ one.3)

-- ---- those that have a face
module _ (face : List Coordinates) where
  holds : List Coordinates → Bool
  holds corners = has (slice_cmp place_cmp) face (faces_of corners)

  -- the side on which a tetrahedron lies
  abbrev at : List Coordinates → ℤ
  at corners = balance face (facets_of corners)

  -- that a tetrahedron has the face
  record HasIt (corners : List Coordinates) : Type 0 where
    across : Coordinates
    order : IsPermutation (face ++ across ∷ []) corners
    sided : (at corners ≡ pos 1) ⊎ (at corners ≡ negsuc 0)
    is : at corners ≡ side_number face across

  has_it : (corners : List Coordinates) → is_flat corners ≡ false → has (slice_cmp place_cmp) face (faces_of corners) ≡ true → HasIt corners
  has_it corners solid there =
      let faces = faces_are corners solid in
      let one = one_has (IsFacetOf corners) face (facets_of corners) (ap (are_distinct (slice_cmp place_cmp)) faces ∙ faces_distinct corners solid) (facets_are corners solid)
      (ap (has (slice_cmp place_cmp) face) faces ∙ there) in
      record {
        across = one.0.across;
        order = subst (λ f. IsPermutation (f ++ one.0.across ∷ []) corners) (sym one.2) one.1.0;
        sided = subst (λ s. (s ≡ pos 1) ⊎ (s ≡ negsuc 0)) (sym one.3) one.1.1;
        is = one.3 ∙ ap (λ f. side_number f one.0.across) (sym one.2);
      }

  has_none : (corners : List Coordinates) → is_flat corners ≡ false → has (slice_cmp place_cmp) face (faces_of corners) ≡ false → at corners ≡ pos 0
  has_none corners solid none = none_has face (facets_of corners) (ap (has (slice_cmp place_cmp) face) (faces_are corners solid) ∙ none)

  opposite : (s t : List Coordinates) → HasIt s → HasIt t → LieOnBothSides s t → at s ≡ neg_ℤ (at t)
  opposite s t h k both = h.is ∙ by face h.across k.across h.order k.order ∙ ap neg_ℤ (sym k.is)
    where
      by : (f : List Coordinates) (d e : Coordinates) → IsPermutation (f ++ d ∷ []) s → IsPermutation (f ++ e ∷ []) t → side_number f d ≡ neg_ℤ (side_number f e)
      by (u ∷ v ∷ w ∷ []) d e here there =
          sgn_alike (vol6 u v w d) (neg_ℤ (vol6 u v w e)) (both u v w d e here there) ∙ sgn_turned (neg_ℤ (vol6 u v w e)) (vol6 u v w e) refl
      by [] d e here there = refl
      by (u ∷ []) d e here there = refl
      by (u ∷ v ∷ []) d e here there = refl
      by (u ∷ v ∷ w ∷ x ∷ l) d e here there = refl

  -- what all have is what those have that have the face
  of_holders : (tets : List (List Coordinates)) → AllByRecursion (λ corners. is_flat corners ≡ false) tets
      → (balance face (flat_map facets_of tets) ≡ total at (filter holds tets)) × AllByRecursion HasIt (filter holds tets)
  unfolding holds
  of_holders [] solid = (refl, tt)
  of_holders (t ∷ tets) solid =
      let rest = of_holders tets solid.1 in
      let more = total-append (λ x. cond (same face x.face) (side_number x.face x.across) (pos 0)) (facets_of t) (flat_map facets_of tets) in
      elim (has (slice_cmp place_cmp) face (faces_of t)) as (λ b. has (slice_cmp place_cmp) face (faces_of t) ≡ b
      → (balance face (flat_map facets_of (t ∷ tets)) ≡ total at (cond b (t ∷ filter holds tets) (filter holds tets))) × AllByRecursion HasIt (cond b (t ∷ filter holds tets) (filter holds tets))) [
        | true ↦ λ there. (more ∙ ap (λ n. at t +ℤ n) rest.0, (has_it t solid.0 there, rest.1))
        | false ↦ λ none. (more ∙ ap₂ (λ m n. m +ℤ n) (has_none t solid.0 none) rest.0 ∙ left (total at (filter holds tets)), rest.1)
      ] refl
    where
      left : (t : ℤ) → pos 0 +ℤ t ≡ t
      left t = omega (arith, ints)

  few : (ts : List (List Coordinates)) → AllByRecursion HasIt ts → Pairs LieOnBothSides ts → (length ts ≤ 2) × (length ts ≢ 1 → total at ts ≡ pos 0)
  few [] all pairs = (omega arith, λ _. refl)
  few (s ∷ []) all pairs = (omega arith, λ more. absurd (more refl))
  few (s ∷ t ∷ []) all pairs = (omega arith, λ _. by (at s) (at t) (opposite s t all.0 all.1.0 pairs.0.0))
    where
      by : (x y : ℤ) → x ≡ neg_ℤ y → x +ℤ (y +ℤ pos 0) ≡ pos 0
      by x y e = omega (arith, ints)
  few (s ∷ t ∷ u ∷ ts) all pairs =
      absurd (by (at s) (at t) (at u) all.0.sided (opposite s t all.0 all.1.0 pairs.0.0) (opposite s u all.0 all.1.1.0 pairs.0.1.0) (opposite t u all.1.0 all.1.1.0 pairs.1.0.0))
    where
      by : (x y z : ℤ) → (x ≡ pos 1) ⊎ (x ≡ negsuc 0) → x ≡ neg_ℤ y → x ≡ neg_ℤ z → y ≡ neg_ℤ z → ⊥
      by x y z (inl d) e f g = omega (arith, ints)
      by x y z (inr d) e f g = omega (arith, ints)

pub faces_are_balanced : FacesAreBalanced
unfolding holds
faces_are_balanced tets solid sides face =
    let those = of_holders face tets solid in
    let two = few face (filter (holds face) tets) those.1 (pairs_from LieOnBothSides (filter (holds face) tets) (AllPairs-filter LieOnBothSides (holds face) tets sides)) in
    let counted = length-filter (holds face) tets in
    (subst (λ n. n ≤ 2) counted two.0, λ more. those.0 ∙ two.1 (λ e. more (sym counted ∙ e)))
