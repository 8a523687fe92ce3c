-- What the five tetrahedra of five places enclose cancels.
use Rattle.std.proofs.Common.{◌≡◌, ◌≢◌, ℕ, ⊎_elim, zero, suc, Bool, true, false, cond, not, ◌&&◌, ◌||◌, min, [], ◌∷◌, refl, ap, ◌∙◌, arith}
use Rattle.std.specs.Prelude.{ℤ, pos, negsuc, ◌+ℤ◌, ◌-ℤ◌, ◌*ℤ◌, neg_ℤ, ◌<ℤ◌, int_lt, map}
use Rattle.std.specs.Int.{int_signum}
use Rattle.std.specs.List.{AllByRecursion, list_any}
use Rattle.std.specs.Ordering.{int_eq}
use Rattle.std.proofs.lemmas.Bool.{and_from, false_from_ne_true, or_left, or_right}
use Rattle.std.proofs.lemmas.Int.{ints}
use Rattle.ma_geom.specs.Coordinates.{Coordinates}
use Rattle.ma_geom.specs.Rational.{IsPoint, Rational, side}
use Rattle.ma_geom.specs.Signs.{sign_of}
use Rattle.ma_geom.specs.Volume.{vol6}
use Rattle.ma_geom.specs.declared.signs.Sign.{Sign}
use Rattle.ma_geom.specs.declared.signs.Sign.TheVariants.{Minus, Plus, Zero}
use Rattle.ma_geom.proofs.Identities.{sides_sum, vol6_exchange_cd, vol6_turn_bcd}
use Rattle.ma_geom.proofs.Integers.{positive_factor}
use Rattle.ma_geom.proofs.Reified.{Quadruple, Triple, place, point, point_and_places, side'}
use Rattle.ma_geom.proofs.Ring.{var, con, neg, ◌⊕◌, ◌⊖◌, ◌⊗◌, entry, ring}
use Rattle.ma_cells.specs.Faces.{faces_of}
use Rattle.ma_cover.specs.Inside.{are_alike, is_beside, is_inside}
use Rattle.mesh_laws.specs.FivePlaces.{FivePlacesCancel, enclosed}
use Rattle.mesh_laws.specs.Points.{IsOffPlane}
use Rattle.mesh_laws.proofs.FiveSigns.{alike, can_cancel, is_minus, is_plus, is_strict_or_flat, is_null, number, product, signs_cancel, turned, turns, within, within_is}
use Rattle.mesh_laws.proofs.MovedOff.{bent, point_or_not}
use Rattle.mesh_laws.proofs.Weights.{inside_is_point, is_or_not, some_a, some_b, some_c, turned_a}

-- ---- signs of whole numbers
below_zero : (x : ℤ) → int_lt x (pos 0) ≡ is_minus (sign_of x)
below_zero (pos zero) = grind (arith, ints)
below_zero (pos (suc n)) = grind (arith, ints)
below_zero (negsuc n) = grind (arith, ints)

above_zero : (x : ℤ) → int_lt (pos 0) x ≡ is_plus (sign_of x)
above_zero (pos zero) = grind (arith, ints)
above_zero (pos (suc n)) = grind (arith, ints)
above_zero (negsuc n) = grind (arith, ints)

sign_plus : (x : ℤ) → pos 0 <ℤ x → sign_of x ≡ Plus
sign_plus (pos zero) h = absurd (omega (arith, ints))
sign_plus (pos (suc n)) h = refl
sign_plus (negsuc n) h = absurd (omega (arith, ints))

sign_minus : (x : ℤ) → x <ℤ pos 0 → sign_of x ≡ Minus
sign_minus (pos zero) h = absurd (omega (arith, ints))
sign_minus (pos (suc n)) h = absurd (omega (arith, ints))
sign_minus (negsuc n) h = refl

sign_zero : (x : ℤ) → x ≡ pos 0 → sign_of x ≡ Zero
sign_zero x e = ap sign_of e

sign_turned : (x : ℤ) → sign_of (neg_ℤ x) ≡ turned (sign_of x)
sign_turned (pos zero) = refl
sign_turned (pos (suc n)) = refl
sign_turned (negsuc n) = refl

sign_product : (x y : ℤ) → sign_of (x *ℤ y) ≡ product (sign_of x) (sign_of y)
sign_product (pos zero) y = sign_zero (pos zero *ℤ y) (omega (arith, ints))
sign_product (pos (suc m)) (pos zero) = sign_zero (pos (suc m) *ℤ pos zero) (omega (arith, ints))
sign_product (pos (suc m)) (pos (suc n)) = sign_plus (pos (suc m) *ℤ pos (suc n)) (omega (arith, ints))
sign_product (pos (suc m)) (negsuc n) = sign_minus (pos (suc m) *ℤ negsuc n) (omega (arith, ints))
sign_product (negsuc m) (pos zero) = sign_zero (negsuc m *ℤ pos zero) (omega (arith, ints))
sign_product (negsuc m) (pos (suc n)) = sign_minus (negsuc m *ℤ pos (suc n)) (omega (arith, ints))
sign_product (negsuc m) (negsuc n) = sign_plus (negsuc m *ℤ negsuc n) (omega (arith, ints))

not_zero : (x : ℤ) → x ≢ pos 0 → is_null (sign_of x) ≡ false
not_zero (pos zero) h = absurd (h refl)
not_zero (pos (suc n)) h = refl
not_zero (negsuc n) h = refl

alike_is : (x y : ℤ) → are_alike x y ≡ alike (sign_of x) (sign_of y)
alike_is x y = rw (above_zero x, above_zero y, below_zero x, below_zero y) refl

signum_is : (x : ℤ) → int_signum x ≡ number (sign_of x)
signum_is (pos zero) = refl
signum_is (pos (suc n)) = ap pos (by n)
  where
    by : (n : ℕ) → min (suc n) 1 ≡ 1
    by n = omega arith
signum_is (negsuc n) = refl

-- ---- numbers that sum to zero
none_is : (x : ℤ) → int_eq x (pos 0) ≡ is_null (sign_of x)
none_is (pos zero) = grind (arith, ints)
none_is (pos (suc n)) = grind (arith, ints)
none_is (negsuc n) = grind (arith, ints)

three_cancel : (x y z : ℤ) → (x +ℤ y) +ℤ z ≡ pos 0 → can_cancel (map sign_of (x ∷ y ∷ z ∷ [])) ≡ true
three_cancel x y z e = rw (← above_zero x, ← above_zero y, ← above_zero z, ← below_zero x, ← below_zero y, ← below_zero z, ← none_is x, ← none_is y, ← none_is z) (by x y z e)
  where
    by : (x y z : ℤ) → (x +ℤ y) +ℤ z ≡ pos 0 → (((int_lt (pos 0) x || (int_lt (pos 0) y || (int_lt (pos 0) z || false))) && (int_lt x (pos 0) || (int_lt y (pos 0) || (int_lt z (pos 0) || false)))) || (int_eq x (pos 0) && (int_eq y (pos 0) && (int_eq z (pos 0) && true)))) ≡ true
    by x y z e = grind (arith, ints)

four_cancel : (x y z w : ℤ) → ((x +ℤ y) +ℤ z) +ℤ w ≡ pos 0 → can_cancel (map sign_of (x ∷ y ∷ z ∷ w ∷ [])) ≡ true
four_cancel x y z w e =
    rw (← above_zero x, ← above_zero y, ← above_zero z, ← above_zero w, ← below_zero x, ← below_zero y, ← below_zero z, ← below_zero w, ← none_is x, ← none_is y, ← none_is z, ← none_is w) (by x y z w e)
  where
    by : (x y z w : ℤ) → ((x +ℤ y) +ℤ z) +ℤ w ≡ pos 0
        → (((int_lt (pos 0) x || (int_lt (pos 0) y || (int_lt (pos 0) z || (int_lt (pos 0) w || false)))) && (int_lt x (pos 0) || (int_lt y (pos 0) || (int_lt z (pos 0) || (int_lt w (pos 0) || false))))) || (int_eq x (pos 0) && (int_eq y (pos 0) && (int_eq z (pos 0) && (int_eq w (pos 0) && true))))) ≡ true
    by x y z w e = grind (arith, ints)

-- ---- the relations of Grassmann and Plücker
relation : (q r s t u v : ℤ) → ((q *ℤ r) -ℤ (s *ℤ t)) +ℤ (u *ℤ v) ≡ pos 0
    → can_cancel (product (sign_of q) (sign_of r) ∷ turned (product (sign_of s) (sign_of t)) ∷ product (sign_of u) (sign_of v) ∷ []) ≡ true
relation q r s t u v e = rw (← sign_product q r, ← sign_product s t, ← sign_turned (s *ℤ t), ← sign_product u v) (three_cancel (q *ℤ r) (neg_ℤ (s *ℤ t)) (u *ℤ v) e)

abbrev A : Triple
A = place 0

abbrev B : Triple
B = place 1

abbrev C : Triple
C = place 2

abbrev D : Triple
D = place 3

abbrev E : Triple
E = place 4

abbrev P : Quadruple
P = point

module _ (a b c d e : Coordinates) (p : Rational) where
  at_a : ((side a b c p *ℤ side a d e p) -ℤ (side a b d p *ℤ side a c e p)) +ℤ (side a b e p *ℤ side a c d p) ≡ pos 0
  unfolding side
  at_a = ring (point_and_places p (a ∷ b ∷ c ∷ d ∷ e ∷ [])) (((side' A B C P ⊗ side' A D E P) ⊖ (side' A B D P ⊗ side' A C E P)) ⊕ (side' A B E P ⊗ side' A C D P)) (con (pos 0)) tt

  at_b : ((side a b c p *ℤ side b d e p) -ℤ (side a b d p *ℤ side b c e p)) +ℤ (side a b e p *ℤ side b c d p) ≡ pos 0
  unfolding side
  at_b = ring (point_and_places p (a ∷ b ∷ c ∷ d ∷ e ∷ [])) (((side' A B C P ⊗ side' B D E P) ⊖ (side' A B D P ⊗ side' B C E P)) ⊕ (side' A B E P ⊗ side' B C D P)) (con (pos 0)) tt

  at_c : ((side a b c p *ℤ side c d e p) -ℤ (side a c d p *ℤ side b c e p)) +ℤ (side a c e p *ℤ side b c d p) ≡ pos 0
  unfolding side
  at_c = ring (point_and_places p (a ∷ b ∷ c ∷ d ∷ e ∷ [])) (((side' A B C P ⊗ side' C D E P) ⊖ (side' A C D P ⊗ side' B C E P)) ⊕ (side' A C E P ⊗ side' B C D P)) (con (pos 0)) tt

  at_d : ((side a b d p *ℤ side c d e p) -ℤ (side a c d p *ℤ side b d e p)) +ℤ (side a d e p *ℤ side b c d p) ≡ pos 0
  unfolding side
  at_d = ring (point_and_places p (a ∷ b ∷ c ∷ d ∷ e ∷ [])) (((side' A B D P ⊗ side' C D E P) ⊖ (side' A C D P ⊗ side' B D E P)) ⊕ (side' A D E P ⊗ side' B C D P)) (con (pos 0)) tt

  at_e : ((side a b e p *ℤ side c d e p) -ℤ (side a c e p *ℤ side b d e p)) +ℤ (side a d e p *ℤ side b c e p) ≡ pos 0
  unfolding side
  at_e = ring (point_and_places p (a ∷ b ∷ c ∷ d ∷ e ∷ [])) (((side' A B E P ⊗ side' C D E P) ⊖ (side' A C E P ⊗ side' B D E P)) ⊕ (side' A D E P ⊗ side' B C E P)) (con (pos 0)) tt

-- ---- one tetrahedron
flat_so : (q r s t : ℤ) → ((t -ℤ s) +ℤ r) -ℤ q ≡ pos 0 → is_strict_or_flat (sign_of q) (sign_of r) (sign_of s) (sign_of t) ≡ true
flat_so q r s t e =
    or_right (not (list_any is_null (sign_of q ∷ sign_of r ∷ sign_of s ∷ sign_of t ∷ []))) (can_cancel (sign_of t ∷ turned (sign_of s) ∷ sign_of r ∷ turned (sign_of q) ∷ []))
    (rw (← sign_turned s, ← sign_turned q) (four_cancel t (neg_ℤ s) r (neg_ℤ q) e))

strict_so : (q r s t : ℤ) → q ≢ pos 0 → r ≢ pos 0 → s ≢ pos 0 → t ≢ pos 0 → is_strict_or_flat (sign_of q) (sign_of r) (sign_of s) (sign_of t) ≡ true
strict_so q r s t e f g h =
    or_left (not (list_any is_null (sign_of q ∷ sign_of r ∷ sign_of s ∷ sign_of t ∷ []))) (can_cancel (sign_of t ∷ turned (sign_of s) ∷ sign_of r ∷ turned (sign_of q) ∷ []))
    (rw (not_zero q e, not_zero r f, not_zero s g, not_zero t h) refl)

module _ (p : Rational) (a b c d : Coordinates) where
  strict_or_flat : AllByRecursion (IsOffPlane p) (faces_of (a ∷ b ∷ c ∷ d ∷ [])) → is_strict_or_flat (sign_of (side b c d p)) (sign_of (side a c d p)) (sign_of (side a b d p)) (sign_of (side a b c p)) ≡ true
  strict_or_flat off =
      ⊎_elim (λ flat. flat_so (side b c d p) (side a c d p) (side a b d p) (side a b c p) (sides_sum a b c d p ∙ nothing p.w (vol6 a b c d) flat))
      (λ solid. strict_so (side b c d p) (side a c d p) (side a b d p) (side a b c p) (off.1.1.1.0 (bent b c d a (some_a a b c d solid))) (off.1.1.0 (bent a c d b (some_b a b c d solid))) (off.1.0 (bent a b d c (some_c a b c d solid))) (off.0 (bent a b c d solid)))
      (is_or_not (vol6 a b c d))
    where
      nothing : (w n : ℤ) → n ≡ pos 0 → w *ℤ n ≡ pos 0
      nothing w n e = rw e (by w)
        where
          by : (w : ℤ) → w *ℤ pos 0 ≡ pos 0
          by w = omega (arith, ints)

  turns_so : IsPoint p → turns (sign_of (vol6 a b c d)) (sign_of (side b c d p)) (sign_of (side a c d p)) (sign_of (side a b d p)) (sign_of (side a b c p)) ≡ true
  turns_so is_point =
      by (side b c d p) (side a c d p) (side a b d p) (side a b c p) (vol6 a b c d) (p.w *ℤ vol6 a b c d) (sides_sum a b c d p) (positive_factor p.w (vol6 a b c d) is_point.positive) (negative_factor p.w (vol6 a b c d) is_point.positive)
    where
      negative_factor : (w v : ℤ) → pos 0 <ℤ w → (w *ℤ v) <ℤ pos 0 → v <ℤ pos 0
      negative_factor w v h k = back v (positive_factor w (neg_ℤ v) h (forth (w *ℤ v) (w *ℤ neg_ℤ v) (ring (entry (w ∷ v ∷ [])) (var 0 ⊗ neg (var 1)) (neg (var 0 ⊗ var 1)) tt) k))
        where
          forth : (s t : ℤ) → t ≡ neg_ℤ s → s <ℤ pos 0 → pos 0 <ℤ t
          forth s t e h = omega (arith, ints)

          back : (v : ℤ) → pos 0 <ℤ neg_ℤ v → v <ℤ pos 0
          back v h = omega (arith, ints)

      by : (q r s t v n : ℤ) → ((t -ℤ s) +ℤ r) -ℤ q ≡ n → (pos 0 <ℤ n → pos 0 <ℤ v) → (n <ℤ pos 0 → v <ℤ pos 0) → turns (sign_of v) (sign_of q) (sign_of r) (sign_of s) (sign_of t) ≡ true
      by q r s t v n e left right =
          and_from
          (not (is_minus (sign_of q) && is_plus (sign_of r) && is_minus (sign_of s) && is_plus (sign_of t)) || is_plus (sign_of v))
          (not (is_plus (sign_of q) && is_minus (sign_of r) && is_plus (sign_of s) && is_minus (sign_of t)) || is_minus (sign_of v))
          (rw (← below_zero q, ← above_zero r, ← below_zero s, ← above_zero t, ← above_zero v) (if_left q r s t v n e left))
          (rw (← above_zero q, ← below_zero r, ← above_zero s, ← below_zero t, ← below_zero v) (if_right q r s t v n e right))
        where
          if_left : (q r s t v n : ℤ) → ((t -ℤ s) +ℤ r) -ℤ q ≡ n → (pos 0 <ℤ n → pos 0 <ℤ v) → (not (int_lt q (pos 0) && int_lt (pos 0) r && int_lt s (pos 0) && int_lt (pos 0) t) || int_lt (pos 0) v) ≡ true
          if_left q r s t v n e h = grind (arith, ints)

          if_right : (q r s t v n : ℤ) → ((t -ℤ s) +ℤ r) -ℤ q ≡ n → (n <ℤ pos 0 → v <ℤ pos 0) → (not (int_lt (pos 0) q && int_lt r (pos 0) && int_lt (pos 0) s && int_lt t (pos 0)) || int_lt v (pos 0)) ≡ true
          if_right q r s t v n e h = grind (arith, ints)

  enclosed_is : IsPoint p → enclosed p a b c d ≡ within (sign_of (side b c d p)) (sign_of (side a c d p)) (sign_of (side a b d p)) (sign_of (side a b c p))
  enclosed_is is_point =
      four (is_beside b c d a p) (is_beside a c d b p) (is_beside a b d c p) (is_beside a b c d p) _ _ _ _ (int_signum (vol6 a b c d)) (number s)
      (alike_is (vol6 b c d a) (side b c d p) ∙ ap (λ t. alike t (sign_of (side b c d p))) (ap sign_of (turned_a a b c d) ∙ sign_turned (vol6 a b c d)))
      (alike_is (vol6 a c d b) (side a c d p) ∙ ap (λ t. alike t (sign_of (side a c d p))) (ap sign_of (vol6_turn_bcd a b c d)))
      (alike_is (vol6 a b d c) (side a b d p) ∙ ap (λ t. alike t (sign_of (side a b d p))) (ap sign_of (vol6_exchange_cd a b c d) ∙ sign_turned (vol6 a b c d)))
      (alike_is (vol6 a b c d) (side a b c p)) (signum_is (vol6 a b c d))
      ∙ within_is s (sign_of (side b c d p)) (sign_of (side a c d p)) (sign_of (side a b d p)) (sign_of (side a b c p)) (turns_so is_point)
    where
      s : Sign
      s = sign_of (vol6 a b c d)

      four : (s t u v s' t' u' v' : Bool) (n n' : ℤ) → s ≡ s' → t ≡ t' → u ≡ u' → v ≡ v' → n ≡ n' → cond (s && t && u && v) n (pos 0) ≡ cond (s' && t' && u' && v') n' (pos 0)
      four s t u v s' t' u' v' n n' e f g h k = rw (e, f, g, h, k) refl

  none_enclosed : (IsPoint p → ⊥) → enclosed p a b c d ≡ pos 0
  none_enclosed no_point = ap (λ t. cond t (int_signum (vol6 a b c d)) (pos 0)) (false_from_ne_true (is_inside p (a ∷ b ∷ c ∷ d ∷ [])) (λ h. no_point (inside_is_point p (a ∷ b ∷ c ∷ d ∷ []) h)))

-- ---- five places
pub five_places_cancel : FivePlacesCancel
five_places_cancel p a b c d e (abc, (abd, (abe, (acd, (ace, (ade, (bcd, (bce, (bde, (cde, _)))))))))) =
    ⊎_elim (λ is_point.
    five (enclosed_is p b c d e is_point) (enclosed_is p a c d e is_point) (enclosed_is p a b d e is_point) (enclosed_is p a b c e is_point) (enclosed_is p a b c d is_point)
    ∙ signs_cancel (sign_of (side a b c p)) (sign_of (side a b d p)) (sign_of (side a b e p)) (sign_of (side a c d p)) (sign_of (side a c e p)) (sign_of (side a d e p)) (sign_of (side b c d p)) (sign_of (side b c e p)) (sign_of (side b d e p)) (sign_of (side c d e p)) (
      relation (side a b c p) (side a d e p) (side a b d p) (side a c e p) (side a b e p) (side a c d p) (at_a a b c d e p),
      (
        relation (side a b c p) (side b d e p) (side a b d p) (side b c e p) (side a b e p) (side b c d p) (at_b a b c d e p),
        (
          relation (side a b c p) (side c d e p) (side a c d p) (side b c e p) (side a c e p) (side b c d p) (at_c a b c d e p),
          (
            relation (side a b d p) (side c d e p) (side a c d p) (side b d e p) (side a d e p) (side b c d p) (at_d a b c d e p),
            (
              relation (side a b e p) (side c d e p) (side a c e p) (side b d e p) (side a d e p) (side b c e p) (at_e a b c d e p),
              (
                strict_or_flat p a b c d (abc, (abd, (acd, (bcd, tt)))),
                (
                  strict_or_flat p a b c e (abc, (abe, (ace, (bce, tt)))),
                  (strict_or_flat p a b d e (abd, (abe, (ade, (bde, tt)))), (strict_or_flat p a c d e (acd, (ace, (ade, (cde, tt)))), (strict_or_flat p b c d e (bcd, (bce, (bde, (cde, tt)))), tt))),
                ),
              ),
            ),
          ),
        ),
      ),
    ))
    (λ no_point. five (none_enclosed p b c d e no_point) (none_enclosed p a c d e no_point) (none_enclosed p a b d e no_point) (none_enclosed p a b c e no_point) (none_enclosed p a b c d no_point))
    (point_or_not p)
  where
    five : {q r s t u q' r' s' t' u' : ℤ} → q ≡ q' → r ≡ r' → s ≡ s' → t ≡ t' → u ≡ u' → (((q -ℤ r) +ℤ s) -ℤ t) +ℤ u ≡ (((q' -ℤ r') +ℤ s') -ℤ t') +ℤ u'
    five e f g h k = rw (e, f, g, h, k) refl
