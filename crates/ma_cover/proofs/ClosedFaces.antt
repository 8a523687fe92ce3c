-- A point is on a closed face of a tetrahedron just where it is in the closed tetrahedron and not within it.
use Rattle.std.proofs.Common.{◌≡◌, ◌≢◌, ◌⊎◌, inl, inr, ℕ, ◌<◌, Bool, true, false, not, ◌&&◌, ◌||◌, List, [], ◌∷◌, get_or, length, refl, sym, ap, subst, ◌+◌, ◌∙◌, arith}
use Rattle.std.specs.Prelude.{ℤ, pos, negsuc, zero, suc, ◌+ℤ◌, ◌*ℤ◌, neg_ℤ, ◌<ℤ◌, ◌≤ℤ◌}
use Rattle.std.specs.List.{AllByRecursion}
use Rattle.std.specs.Ordering.{int_eq}
use Rattle.std.proofs.lemmas.Bool.{and_parts, cases_lt, false≢true, false_from_ne_true}
use Rattle.std.proofs.lemmas.Int.{ints}
use Rattle.std.proofs.lemmas.List.{get_or_default}
use Rattle.ma_geom.specs.Coordinates.{Coordinates}
use Rattle.ma_geom.specs.Rational.{Rational, side}
use Rattle.ma_geom.specs.Volume.{vol6}
use Rattle.ma_geom.proofs.Identities.{vol6_same_ad, vol6_same_bd, vol6_same_cd}
use Rattle.ma_geom.proofs.Integers.{positive-*ℤ, +ℤ-*ℤ}
use Rattle.ma_geom.proofs.Ring.{var, neg, ◌⊗◌, entry, ring}
use Rattle.ma_cells.specs.Tetrahedron.{are_corners, is_flat}
use Rattle.ma_cells.specs.Ascending.{are_ascending}
use Rattle.ma_geom.specs.Coordinates.{place_cmp}
use Rattle.ma_cover.specs.Inside.{are_alike, is_beside, is_inside}
use Rattle.ma_cover.specs.Located.{IsOnFaceOf}
use Rattle.ma_cover.specs.OnFaces.{IsOffFacesOf, IsOnTriangle}
use Rattle.ma_cover.specs.steps.Closed.{is_in_closed, is_not_across, is_on_face}
use Rattle.ma_cover.proofs.OffFaces.{all_four, inside_is_off_faces, side_of_mean}
use Rattle.ma_cover.proofs.CornerWeights.{by_four, not_negative, on_face, some_a, some_b, some_c, weight_bc, weight_turn}

all_true : (s t u v : Bool) → s ≡ true → t ≡ true → u ≡ true → v ≡ true → (s && t && u && v) ≡ true
all_true s t u v e f g h = rw (e, f, g, h) refl

-- ---- in the closed tetrahedron and not within it: on a face
zero_or_alike : (v s : ℤ) → (int_eq s (pos 0) || are_alike v s) ≡ true → (s ≡ pos 0) ⊎ (are_alike v s ≡ true)
zero_or_alike v s h = grind (arith, ints)

kept_not_negative : (s t : ℤ) → s ≡ t → pos 0 ≤ℤ t → pos 0 ≤ℤ s
kept_not_negative s t e h = rw e h

on_some_face : (p : Rational) (a b c d : Coordinates) → vol6 a b c d ≢ pos 0 → is_in_closed p (a ∷ b ∷ c ∷ d ∷ []) ≡ true → is_inside p (a ∷ b ∷ c ∷ d ∷ []) ≡ false
    → IsOnFaceOf p (a ∷ b ∷ c ∷ d ∷ [])
on_some_face p a b c d solid closed out =
    let at = all_four (is_not_across b c d a p) (is_not_across a c d b p) (is_not_across a b d c p) (is_not_across a b c d p) closed in
    let was_a = zero_or_alike (vol6 b c d a) (side b c d p) at.0 in
    let was_b = zero_or_alike (vol6 a c d b) (side a c d p) at.1 in
    let was_c = zero_or_alike (vol6 a b d c) (side a b d p) at.2 in
    let was_d = zero_or_alike (vol6 a b c d) (side a b c p) at.3 in
    let i = not_negative (vol6 b c d a) (side b c d p) was_a in
    let j = not_negative (vol6 a c d b) (side a c d p) was_b in
    let k = not_negative (vol6 a b d c) (side a b d p) was_c in
    let l = not_negative (vol6 a b c d) (side a b c p) was_d in
    elim was_d [
      | inl e ↦ (0, a ∷ b ∷ c ∷ [], omega arith, refl, on_face a b c d p solid e i j k)
      | inr at_d ↦ elim was_c [
        | inl e ↦ (1, a ∷ b ∷ d ∷ [], omega arith, refl, on_face a b d c p (some_c a b c d solid) e (kept_not_negative _ _ (weight_bc b c d a p) i) (kept_not_negative _ _ (weight_bc a c d b p) j) l)
        | inr at_c ↦ elim was_b [
          | inl e ↦ (2, a ∷ c ∷ d ∷ [], omega arith, refl, on_face a c d b p (some_b a b c d solid) e (kept_not_negative _ _ (weight_turn b c d a p) i) (kept_not_negative _ _ (weight_bc a b d c p) k) (kept_not_negative _ _ (weight_bc a b c d p) l))
          | inr at_b ↦ elim was_a [
            | inl e ↦ (3, b ∷ c ∷ d ∷ [], omega arith, refl, on_face b c d a p (some_a a b c d solid) e (kept_not_negative _ _ (weight_turn a c d b p) j) (kept_not_negative _ _ (weight_turn a b d c p) k) (kept_not_negative _ _ (weight_turn a b c d p) l))
            | inr at_a ↦ absurd (false≢true (sym out ∙ all_true (is_beside b c d a p) (is_beside a c d b p) (is_beside a b d c p) (is_beside a b c d p) at_a at_b at_c at_d))
          ]
        ]
      ]
    ]

-- ---- on a face: in the closed tetrahedron
-- over a plane, what is in it or as high as what is across from it
abbrev IsLevelOrAs : ℤ → ℤ → Type 0
IsLevelOrAs v x = (x ≡ v) ⊎ (x ≡ pos 0)

share_of : (v i x : ℤ) → pos 0 ≤ℤ i → IsLevelOrAs v x → (m : ℤ) × (pos 0 ≤ℤ m) × (i *ℤ x ≡ m *ℤ v)
share_of v i x h (inl e) = (i, h, ap (λ t. i *ℤ t) e)
share_of v i x h (inr e) = (pos 0, omega (arith, ints), ap (λ t. i *ℤ t) e ∙ nothing i v)
  where
    nothing : (i v : ℤ) → i *ℤ pos 0 ≡ pos 0 *ℤ v
    nothing i v = omega (arith, ints)

positive_other : (m v : ℤ) → pos 0 ≤ℤ m → pos 0 <ℤ (m *ℤ v) → pos 0 <ℤ v
positive_other (negsuc m) v h k = absurd (omega (arith, ints))
positive_other (pos m) (pos zero) h k = omega (arith, ints)
positive_other (pos m) (pos (suc n)) h k = omega (arith, ints)
positive_other (pos m) (negsuc n) h k = absurd (omega (arith, ints))

three_signs : (s : ℤ) → (s ≡ pos 0) ⊎ ((pos 0 <ℤ s) ⊎ (pos 0 <ℤ neg_ℤ s))
three_signs s = grind (arith, ints)

level_test : (v s : ℤ) → s ≡ pos 0 → (int_eq s (pos 0) || are_alike v s) ≡ true
level_test v s e = grind (arith, ints)

above_test : (v s : ℤ) → pos 0 <ℤ v → pos 0 <ℤ s → (int_eq s (pos 0) || are_alike v s) ≡ true
above_test v s h k = grind (arith, ints)

below_test : (v s : ℤ) → pos 0 <ℤ neg_ℤ v → pos 0 <ℤ neg_ℤ s → (int_eq s (pos 0) || are_alike v s) ≡ true
below_test v s h k = grind (arith, ints)

same_sign_factor : (n s m v : ℤ) → pos 0 <ℤ n → pos 0 ≤ℤ m → n *ℤ s ≡ m *ℤ v → pos 0 <ℤ s → pos 0 <ℤ v
same_sign_factor n s m v h k e at = positive_other m v k (rw (sym e) (positive-*ℤ n s h at))

turned_product : (n s m v : ℤ) → n *ℤ s ≡ m *ℤ v → n *ℤ neg_ℤ s ≡ m *ℤ neg_ℤ v
turned_product n s m v e =
    ring (entry (n ∷ s ∷ [])) (var 0 ⊗ neg (var 1)) (neg (var 0 ⊗ var 1)) tt ∙ ap neg_ℤ e ∙ ring (entry (m ∷ v ∷ [])) (neg (var 0 ⊗ var 1)) (var 0 ⊗ neg (var 1)) tt

not_across : (n s m v : ℤ) → pos 0 <ℤ n → pos 0 ≤ℤ m → n *ℤ s ≡ m *ℤ v → (int_eq s (pos 0) || are_alike v s) ≡ true
not_across n s m v h k e =
    elim (three_signs s) [
      | inl level ↦ level_test v s level
      | inr (inl above) ↦ above_test v s (same_sign_factor n s m v h k e above) above
      | inr (inr below) ↦ below_test v s (same_sign_factor n (neg_ℤ s) m (neg_ℤ v) h k (turned_product n s m v e) below) below
    ]

three_sum : (i j k : ℤ) → pos 0 ≤ℤ i → pos 0 ≤ℤ j → pos 0 ≤ℤ k → pos 0 ≤ℤ ((i +ℤ j) +ℤ k)
three_sum i j k f g h = omega (arith, ints)

gathered : (s i j k v x y z : ℤ) → s ≡ (x +ℤ y) +ℤ z → x ≡ i *ℤ v → y ≡ j *ℤ v → z ≡ k *ℤ v → s ≡ ((i +ℤ j) +ℤ k) *ℤ v
gathered s i j k v x y z e at_x at_y at_z =
    e ∙ rw (at_x, at_y, at_z) (sym (ap (λ t. t +ℤ (k *ℤ v)) (+ℤ-*ℤ i j v)) ∙ sym (+ℤ-*ℤ (i +ℤ j) k v))

mean_not_across : (u v w q a b c : Coordinates) (p : Rational) → IsLevelOrAs (vol6 u v w q) (vol6 u v w a) → IsLevelOrAs (vol6 u v w q) (vol6 u v w b) → IsLevelOrAs (vol6 u v w q) (vol6 u v w c)
    → IsOnTriangle a b c p → is_not_across u v w q p ≡ true
mean_not_across u v w q a b c p at_a at_b at_c on =
    let i = share_of (vol6 u v w q) on.i (vol6 u v w a) on.first at_a in
    let j = share_of (vol6 u v w q) on.j (vol6 u v w b) on.second at_b in
    let k = share_of (vol6 u v w q) on.k (vol6 u v w c) on.third at_c in
    not_across on.n (side u v w p) ((i.0 +ℤ j.0) +ℤ k.0) (vol6 u v w q) on.positive (three_sum i.0 j.0 k.0 i.1 j.1 k.1)
    (gathered (on.n *ℤ side u v w p) i.0 j.0 k.0 (vol6 u v w q) (on.i *ℤ vol6 u v w a) (on.j *ℤ vol6 u v w b) (on.k *ℤ vol6 u v w c) (side_of_mean u v w a b c p on) i.2 j.2 k.2)

module _ (a b c d : Coordinates) where
  -- what a corner is over the planes of the four faces
  record IsCorner (x : Coordinates) : Type 0 where
    at_a : IsLevelOrAs (vol6 b c d a) (vol6 b c d x)
    at_b : IsLevelOrAs (vol6 a c d b) (vol6 a c d x)
    at_c : IsLevelOrAs (vol6 a b d c) (vol6 a b d x)
    at_d : IsLevelOrAs (vol6 a b c d) (vol6 a b c x)

  corner_a : IsCorner a
  corner_a = record { at_a = inl refl; at_b = inr (vol6_same_ad a c d); at_c = inr (vol6_same_ad a b d); at_d = inr (vol6_same_ad a b c) }

  corner_b : IsCorner b
  corner_b = record { at_a = inr (vol6_same_ad b c d); at_b = inl refl; at_c = inr (vol6_same_bd a b d); at_d = inr (vol6_same_bd a b c) }

  corner_c : IsCorner c
  corner_c = record { at_a = inr (vol6_same_bd b c d); at_b = inr (vol6_same_bd a c d); at_c = inl refl; at_d = inr (vol6_same_cd a b c) }

  corner_d : IsCorner d
  corner_d = record { at_a = inr (vol6_same_cd b c d); at_b = inr (vol6_same_cd a c d); at_c = inr (vol6_same_cd a b d); at_d = inl refl }

  module _ (p : Rational) where
    closed_on : (x y z : Coordinates) → IsCorner x → IsCorner y → IsCorner z → IsOnTriangle x y z p → is_in_closed p (a ∷ b ∷ c ∷ d ∷ []) ≡ true
    closed_on x y z at_x at_y at_z on =
        all_true (is_not_across b c d a p) (is_not_across a c d b p) (is_not_across a b d c p) (is_not_across a b c d p)
        (mean_not_across b c d a x y z p at_x.at_a at_y.at_a at_z.at_a on)
        (mean_not_across a c d b x y z p at_x.at_b at_y.at_b at_z.at_b on)
        (mean_not_across a b d c x y z p at_x.at_c at_y.at_c at_z.at_c on)
        (mean_not_across a b c d x y z p at_x.at_d at_y.at_d at_z.at_d on)

    test_holds : (s t : Bool) → s ≡ true → (t ≡ true → ⊥) → (s && not t) ≡ true
    test_holds s t e f = rw (e, false_from_ne_true t f) refl

    off_all : is_on_face p (a ∷ b ∷ c ∷ d ∷ []) ≡ false → IsOffFacesOf p (a ∷ b ∷ c ∷ d ∷ [])
    off_all h =
        let test = test_holds (is_in_closed p (a ∷ b ∷ c ∷ d ∷ [])) (is_inside p (a ∷ b ∷ c ∷ d ∷ [])) in
        let off = inside_is_off_faces p (a ∷ b ∷ c ∷ d ∷ []) in (
          (λ on. false≢true (sym h ∙ test (closed_on a b c corner_a corner_b corner_c on) (λ within. (off within).0 on))),
          (
            (λ on. false≢true (sym h ∙ test (closed_on a b d corner_a corner_b corner_d on) (λ within. (off within).1.0 on))),
            (
              (λ on. false≢true (sym h ∙ test (closed_on a c d corner_a corner_c corner_d on) (λ within. (off within).1.1.0 on))),
              ((λ on. false≢true (sym h ∙ test (closed_on b c d corner_b corner_c corner_d on) (λ within. (off within).1.1.1.0 on))), tt),
            ),
          ),
        )

-- ---- of the corners of a tetrahedron
not_from : (s : Bool) → not s ≡ true → s ≡ false
not_from true h = absurd (false≢true h)
not_from false h = refl

not_flat : (corners : List Coordinates) → are_corners corners ≡ true → is_flat corners ≡ false
not_flat corners are = not_from (is_flat corners) (and_parts (are_ascending place_cmp corners) (not (is_flat corners)) are).1

pub on_by_test : (p : Rational) (corners : List Coordinates) → are_corners corners ≡ true → is_on_face p corners ≡ true → IsOnFaceOf p corners
on_by_test p corners are =
    by_four (λ l. is_on_face p l ≡ true → IsOnFaceOf p l)
    (λ a b c d solid h.
    let both = and_parts (is_in_closed p (a ∷ b ∷ c ∷ d ∷ [])) (not (is_inside p (a ∷ b ∷ c ∷ d ∷ []))) h in
    on_some_face p a b c d solid both.0 (not_from (is_inside p (a ∷ b ∷ c ∷ d ∷ [])) both.1))
    corners (not_flat corners are)

pub off_by_test : (p : Rational) (corners : List Coordinates) → are_corners corners ≡ true → is_on_face p corners ≡ false → IsOffFacesOf p corners
off_by_test p corners are = by_four (λ l. is_on_face p l ≡ false → IsOffFacesOf p l) (λ a b c d _ h. off_all a b c d p h) corners (not_flat corners are)

-- ---- of a list
pub all_of_each : {X : Type 0} (P : X → Type 0) (xs : List X) → ((k : ℕ) (d : X) → k < length xs → P (get_or xs k d)) → AllByRecursion P xs
all_of_each P [] each = tt
all_of_each P (x ∷ xs) each = (each 0 x (omega arith), all_of_each P xs (λ k d below. each (suc k) d (omega arith)))

pub one_more : {X : Type 0} (P : X → Type 0) (xs : List X) (i : ℕ) (x : X) → x ≡ get_or xs i x → i < length xs → P x
    → ((k : ℕ) (d : X) → k < i → P (get_or xs k d)) → (k : ℕ) (d : X) → k < i + 1 → P (get_or xs k d)
one_more P xs i x at within here below k d less =
    elim (cases_lt k i) [
      | inl before ↦ below k d before
      | inr after ↦
          let e : k ≡ i = omega arith in
          subst P (at ∙ get_or_default xs i x d within ∙ ap (λ n. get_or xs n d) (sym e)) here
    ]
