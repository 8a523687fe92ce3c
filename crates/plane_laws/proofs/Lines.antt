-- Segments on a line: a point is on the whole just if it is on one of its parts.
use Rattle.std.proofs.Common.{◌≡◌, ◌≢◌, ◌⊎◌, inl, inr, ⊎_elim, zero, suc, true, ◌&&◌, [], ◌∷◌, refl, ap₂, subst, ◌∙◌, arith}
use Rattle.std.specs.Prelude.{◌↔◌, ℤ, pos, negsuc, ◌+ℤ◌, ◌-ℤ◌, ◌*ℤ◌, neg_ℤ, ◌<ℤ◌, ◌≤ℤ◌, int_lt}
use Rattle.std.specs.Ordering.{int_eq}
use Rattle.std.proofs.lemmas.Bool.{and_parts}
use Rattle.std.proofs.lemmas.Int.{ints}
use Rattle.ma_geom.specs.Coordinates.{Coordinates}
use Rattle.ma_geom.specs.Lines.{between, collinear, normal}
use Rattle.ma_geom.specs.Rational.{Rational}
use Rattle.ma_geom.specs.Volume.{dot, minus}
use Rattle.ma_geom.proofs.Identities.{dot_self, dot_squared}
use Rattle.ma_geom.proofs.Integers.{not_negative-*ℤ, positive-*ℤ}
use Rattle.ma_geom.proofs.Reified.{Triple, place, places, cross', dot', minus'}
use Rattle.ma_geom.proofs.Ring.{Expr, var, con, neg, ◌⊕◌, ◌⊖◌, ◌⊗◌, entry, ring}
use Rattle.ma_cover.specs.Classification.{IsOnSegment}
use Rattle.plane_laws.specs.Lines.{SegmentHasTwoParts}

-- ---- the ends in the other order
unfoldable pub on_segment_turned : (p : Rational) (a b : Coordinates) → IsOnSegment a b p → IsOnSegment b a p
on_segment_turned p a b on = record {
  i = on.j;
  j = on.i;
  n = on.n;
  first = on.second;
  second = on.first;
  positive = on.positive;
  w = turned (on.n *ℤ p.w) on.i on.j on.w;
  x = turned (on.n *ℤ p.x) (on.i *ℤ a.x) (on.j *ℤ b.x) on.x;
  y = turned (on.n *ℤ p.y) (on.i *ℤ a.y) (on.j *ℤ b.y) on.y;
  z = turned (on.n *ℤ p.z) (on.i *ℤ a.z) (on.j *ℤ b.z) on.z;
}
  where
    turned : (s i j : ℤ) → s ≡ i +ℤ j → s ≡ j +ℤ i
    turned s i j e = omega (arith, ints)

-- what two equations give
follow : (l r k d e m f g : ℤ) → d ≡ e → f ≡ g → l -ℤ r ≡ (k *ℤ (d -ℤ e)) +ℤ (m *ℤ (f -ℤ g)) → l ≡ r
follow l r k d e m f g first second sum = by l r (sum ∙ ap₂ (λ s t. (k *ℤ (s -ℤ e)) +ℤ (m *ℤ (t -ℤ g))) first second ∙ ring (entry (k ∷ e ∷ m ∷ g ∷ [])) ((var 0 ⊗ (var 1 ⊖ var 1)) ⊕ (var 2 ⊗ (var 3 ⊖ var 3))) (con (pos 0)) tt)
  where
    by : (l r : ℤ) → l -ℤ r ≡ pos 0 → l ≡ r
    by l r e = omega (arith, ints)

-- ---- a place between two: a mean of both with positive weights
record IsMean (c a v : Coordinates) : Type 0 where
  pub s : ℤ
  pub t : ℤ
  pub first : pos 0 <ℤ s
  pub second : pos 0 <ℤ t
  pub x : (s +ℤ t) *ℤ a.x ≡ (s *ℤ v.x) +ℤ (t *ℤ c.x)
  pub y : (s +ℤ t) *ℤ a.y ≡ (s *ℤ v.y) +ℤ (t *ℤ c.y)
  pub z : (s +ℤ t) *ℤ a.z ≡ (s *ℤ v.z) +ℤ (t *ℤ c.z)

turned_mean : (c a v : Coordinates) → IsMean c a v → IsMean v a c
turned_mean c a v m = record {
  s = m.t;
  t = m.s;
  first = m.second;
  second = m.first;
  x = by m.s m.t a.x v.x c.x m.x;
  y = by m.s m.t a.y v.y c.y m.y;
  z = by m.s m.t a.z v.z c.z m.z;
}
  where
    by : (s t a v c : ℤ) → (s +ℤ t) *ℤ a ≡ (s *ℤ v) +ℤ (t *ℤ c) → (t +ℤ s) *ℤ a ≡ (t *ℤ c) +ℤ (s *ℤ v)
    by s t a v c e = ring (entry (s ∷ t ∷ a ∷ [])) ((var 1 ⊕ var 0) ⊗ var 2) ((var 0 ⊕ var 1) ⊗ var 2) tt ∙ e ∙ ring (entry (s ∷ t ∷ v ∷ c ∷ [])) ((var 0 ⊗ var 2) ⊕ (var 1 ⊗ var 3)) ((var 1 ⊗ var 3) ⊕ (var 0 ⊗ var 2)) tt

abbrev C : Triple
C = place 0

abbrev A : Triple
A = place 1

abbrev V : Triple
V = place 2

-- the vector from a to c, the normal of c, a and v, and the weights of v and c
abbrev U : Triple
U = minus' C A

abbrev N : Triple
N = cross' (minus' A C) (minus' V C)

abbrev S : Expr
S = dot' U U

abbrev T : Expr
T = neg (dot' U (minus' V A))

pub between_apart : (c a v : Coordinates) → between c a v ≡ true → v ≢ c
between_apart c a v h e = by (dot (minus c a) (minus v a)) (and_parts (collinear c a v) (int_lt (dot (minus c a) (minus v a)) (pos 0)) h).1 (subst (λ t. pos 0 ≤ℤ dot (minus t a) (minus v a)) e (dot_self (minus v a)))
  where
    by : (d : ℤ) → int_lt d (pos 0) ≡ true → pos 0 ≤ℤ d → ⊥
    by d e h = omega (arith, ints)

mean : (c a v : Coordinates) → between c a v ≡ true → IsMean c a v
unfolding normal
mean c a v h =
    let parts = and_parts (collinear c a v) (int_lt (dot (minus c a) (minus v a)) (pos 0)) h in
    let two = and_parts (int_eq (normal c a v).x (pos 0) && int_eq (normal c a v).y (pos 0)) (int_eq (normal c a v).z (pos 0)) parts.0 in
    let one = and_parts (int_eq (normal c a v).x (pos 0)) (int_eq (normal c a v).y (pos 0)) two.0 in
    let at_x = none (normal c a v).x one.0 in
    let at_y = none (normal c a v).y one.1 in
    let at_z = none (normal c a v).z two.1 in
    let u = minus c a in
    let l = dot u u in
    let d = dot u (minus v a) in
    let below = negative d parts.1 in
    let vars = places (c ∷ a ∷ v ∷ []) in
    record {
      s = l;
      t = neg_ℤ d;
      first = positive l d (dot (minus v a) (minus v a)) (dot_self u) below (dot_squared u (minus v a));
      second = turned d below;
      x = follow _ _ u.z (normal c a v).y (pos 0) (neg_ℤ u.y) (normal c a v).z (pos 0) at_y at_z (ring vars (((S ⊕ T) ⊗ A.x) ⊖ ((S ⊗ V.x) ⊕ (T ⊗ C.x))) ((U.z ⊗ (N.y ⊖ con (pos 0))) ⊕ (neg U.y ⊗ (N.z ⊖ con (pos 0)))) tt);
      y = follow _ _ u.x (normal c a v).z (pos 0) (neg_ℤ u.z) (normal c a v).x (pos 0) at_z at_x (ring vars (((S ⊕ T) ⊗ A.y) ⊖ ((S ⊗ V.y) ⊕ (T ⊗ C.y))) ((U.x ⊗ (N.z ⊖ con (pos 0))) ⊕ (neg U.z ⊗ (N.x ⊖ con (pos 0)))) tt);
      z = follow _ _ u.y (normal c a v).x (pos 0) (neg_ℤ u.x) (normal c a v).y (pos 0) at_x at_y (ring vars (((S ⊕ T) ⊗ A.z) ⊖ ((S ⊗ V.z) ⊕ (T ⊗ C.z))) ((U.y ⊗ (N.x ⊖ con (pos 0))) ⊕ (neg U.x ⊗ (N.y ⊖ con (pos 0)))) tt);
    }
  where
    none : (x : ℤ) → int_eq x (pos 0) ≡ true → x ≡ pos 0
    none x h = grind (arith, ints)

    negative : (d : ℤ) → int_lt d (pos 0) ≡ true → d <ℤ pos 0
    negative d e = omega (arith, ints)

    turned : (d : ℤ) → d <ℤ pos 0 → pos 0 <ℤ neg_ℤ d
    turned d h = omega (arith, ints)

    -- a square above zero is at most l times m, so l isn't zero
    positive : (l d m : ℤ) → pos 0 ≤ℤ l → d <ℤ pos 0 → (d *ℤ d) ≤ℤ (l *ℤ m) → pos 0 <ℤ l
    positive (pos zero) (pos d) m h f g = absurd (omega (arith, ints))
    positive (pos zero) (negsuc d) m h f g = absurd (omega (arith, ints))
    positive (pos (suc l)) d m h f g = omega (arith, ints)
    positive (negsuc l) d m h f g = absurd (omega (arith, ints))

-- ---- points of the parts and of the whole
sum_not_negative : (s t : ℤ) → pos 0 ≤ℤ s → pos 0 ≤ℤ t → pos 0 ≤ℤ (s +ℤ t)
sum_not_negative s t e f = omega (arith, ints)

weaker : (s : ℤ) → pos 0 <ℤ s → pos 0 ≤ℤ s
weaker s h = omega (arith, ints)

module _ (c a v : Coordinates) (m : IsMean c a v) (p : Rational) where
  total : pos 0 <ℤ (m.s +ℤ m.t)
  total = by m.s m.t m.first m.second
    where
      by : (s t : ℤ) → pos 0 <ℤ s → pos 0 <ℤ t → pos 0 <ℤ (s +ℤ t)
      by s t e f = omega (arith, ints)

  from_part : IsOnSegment c a p → IsOnSegment c v p
  from_part on = record {
    i = (on.i *ℤ (m.s +ℤ m.t)) +ℤ (on.j *ℤ m.t);
    j = on.j *ℤ m.s;
    n = on.n *ℤ (m.s +ℤ m.t);
    first = sum_not_negative (on.i *ℤ (m.s +ℤ m.t)) (on.j *ℤ m.t) (not_negative-*ℤ on.i (m.s +ℤ m.t) on.first (weaker (m.s +ℤ m.t) total)) (not_negative-*ℤ on.j m.t on.second (weaker m.t m.second));
    second = not_negative-*ℤ on.j m.s on.second (weaker m.s m.first);
    positive = positive-*ℤ on.n (m.s +ℤ m.t) on.positive total;
    w = weights on.i on.j on.n m.s m.t p.w on.w;
    x = coordinate on.i on.j on.n m.s m.t p.x c.x a.x v.x on.x m.x;
    y = coordinate on.i on.j on.n m.s m.t p.y c.y a.y v.y on.y m.y;
    z = coordinate on.i on.j on.n m.s m.t p.z c.z a.z v.z on.z m.z;
  }
    where
      weights : (i j n s t w : ℤ) → n *ℤ w ≡ i +ℤ j → (n *ℤ (s +ℤ t)) *ℤ w ≡ ((i *ℤ (s +ℤ t)) +ℤ (j *ℤ t)) +ℤ (j *ℤ s)
      weights i j n s t w e =
          follow _ _ (s +ℤ t) (n *ℤ w) (i +ℤ j) (pos 0) (pos 0) (pos 0) e refl
          (ring (entry (i ∷ j ∷ n ∷ s ∷ t ∷ w ∷ [])) (((var 2 ⊗ (var 3 ⊕ var 4)) ⊗ var 5) ⊖ (((var 0 ⊗ (var 3 ⊕ var 4)) ⊕ (var 1 ⊗ var 4)) ⊕ (var 1 ⊗ var 3)))
          (((var 3 ⊕ var 4) ⊗ ((var 2 ⊗ var 5) ⊖ (var 0 ⊕ var 1))) ⊕ (con (pos 0) ⊗ (con (pos 0) ⊖ con (pos 0)))) tt)

      coordinate : (i j n s t x c a v : ℤ) → n *ℤ x ≡ (i *ℤ c) +ℤ (j *ℤ a) → (s +ℤ t) *ℤ a ≡ (s *ℤ v) +ℤ (t *ℤ c)
          → (n *ℤ (s +ℤ t)) *ℤ x ≡ (((i *ℤ (s +ℤ t)) +ℤ (j *ℤ t)) *ℤ c) +ℤ ((j *ℤ s) *ℤ v)
      coordinate i j n s t x c a v e f =
          follow _ _ (s +ℤ t) (n *ℤ x) ((i *ℤ c) +ℤ (j *ℤ a)) j ((s +ℤ t) *ℤ a) ((s *ℤ v) +ℤ (t *ℤ c)) e f
          (ring (entry (i ∷ j ∷ n ∷ s ∷ t ∷ x ∷ c ∷ a ∷ v ∷ []))
          (((var 2 ⊗ (var 3 ⊕ var 4)) ⊗ var 5) ⊖ ((((var 0 ⊗ (var 3 ⊕ var 4)) ⊕ (var 1 ⊗ var 4)) ⊗ var 6) ⊕ ((var 1 ⊗ var 3) ⊗ var 8)))
          (((var 3 ⊕ var 4) ⊗ ((var 2 ⊗ var 5) ⊖ ((var 0 ⊗ var 6) ⊕ (var 1 ⊗ var 7)))) ⊕ (var 1 ⊗ (((var 3 ⊕ var 4) ⊗ var 7) ⊖ ((var 3 ⊗ var 8) ⊕ (var 4 ⊗ var 6))))) tt)

  to_part : (on : IsOnSegment c v p) → (on.j *ℤ m.t) ≤ℤ (on.i *ℤ m.s) → IsOnSegment c a p
  to_part on less = record {
    i = (on.i *ℤ m.s) -ℤ (on.j *ℤ m.t);
    j = on.j *ℤ (m.s +ℤ m.t);
    n = on.n *ℤ m.s;
    first = difference (on.i *ℤ m.s) (on.j *ℤ m.t) less;
    second = not_negative-*ℤ on.j (m.s +ℤ m.t) on.second (weaker (m.s +ℤ m.t) total);
    positive = positive-*ℤ on.n m.s on.positive m.first;
    w = weights on.i on.j on.n m.s m.t p.w on.w;
    x = coordinate on.i on.j on.n m.s m.t p.x c.x a.x v.x on.x m.x;
    y = coordinate on.i on.j on.n m.s m.t p.y c.y a.y v.y on.y m.y;
    z = coordinate on.i on.j on.n m.s m.t p.z c.z a.z v.z on.z m.z;
  }
    where
      difference : (s t : ℤ) → t ≤ℤ s → pos 0 ≤ℤ (s -ℤ t)
      difference s t h = omega (arith, ints)

      weights : (i j n s t w : ℤ) → n *ℤ w ≡ i +ℤ j → (n *ℤ s) *ℤ w ≡ ((i *ℤ s) -ℤ (j *ℤ t)) +ℤ (j *ℤ (s +ℤ t))
      weights i j n s t w e =
          follow _ _ s (n *ℤ w) (i +ℤ j) (pos 0) (pos 0) (pos 0) e refl
          (ring (entry (i ∷ j ∷ n ∷ s ∷ t ∷ w ∷ [])) (((var 2 ⊗ var 3) ⊗ var 5) ⊖ (((var 0 ⊗ var 3) ⊖ (var 1 ⊗ var 4)) ⊕ (var 1 ⊗ (var 3 ⊕ var 4))))
          ((var 3 ⊗ ((var 2 ⊗ var 5) ⊖ (var 0 ⊕ var 1))) ⊕ (con (pos 0) ⊗ (con (pos 0) ⊖ con (pos 0)))) tt)

      coordinate : (i j n s t x c a v : ℤ) → n *ℤ x ≡ (i *ℤ c) +ℤ (j *ℤ v) → (s +ℤ t) *ℤ a ≡ (s *ℤ v) +ℤ (t *ℤ c)
          → (n *ℤ s) *ℤ x ≡ (((i *ℤ s) -ℤ (j *ℤ t)) *ℤ c) +ℤ ((j *ℤ (s +ℤ t)) *ℤ a)
      coordinate i j n s t x c a v e f =
          follow _ _ s (n *ℤ x) ((i *ℤ c) +ℤ (j *ℤ v)) (neg_ℤ j) ((s +ℤ t) *ℤ a) ((s *ℤ v) +ℤ (t *ℤ c)) e f
          (ring (entry (i ∷ j ∷ n ∷ s ∷ t ∷ x ∷ c ∷ a ∷ v ∷ []))
          (((var 2 ⊗ var 3) ⊗ var 5) ⊖ ((((var 0 ⊗ var 3) ⊖ (var 1 ⊗ var 4)) ⊗ var 6) ⊕ ((var 1 ⊗ (var 3 ⊕ var 4)) ⊗ var 7)))
          ((var 3 ⊗ ((var 2 ⊗ var 5) ⊖ ((var 0 ⊗ var 6) ⊕ (var 1 ⊗ var 8)))) ⊕ (neg (var 1) ⊗ (((var 3 ⊕ var 4) ⊗ var 7) ⊖ ((var 3 ⊗ var 8) ⊕ (var 4 ⊗ var 6))))) tt)

two_parts : (c a v : Coordinates) → IsMean c a v → (p : Rational) → IsOnSegment c v p ↔ (IsOnSegment c a p ⊎ IsOnSegment a v p)
unfolding on_segment_turned turned_mean
two_parts c a v m p = (
  (λ on. ⊎_elim (λ less. inl (to_part c a v m p on less)) (λ less. inr (on_segment_turned p v a (to_part v a c (turned_mean c a v m) p (on_segment_turned p c v on) less))) (order (on.j *ℤ m.t) (on.i *ℤ m.s))),
  (λ on. ⊎_elim (from_part c a v m p) (λ k. on_segment_turned p v c (from_part v a c (turned_mean c a v m) p (on_segment_turned p a v k))) on),
)
  where
    order : (s t : ℤ) → (s ≤ℤ t) ⊎ (t ≤ℤ s)
    order s t = grind (arith, ints)

pub segment_has_two_parts : SegmentHasTwoParts
segment_has_two_parts c a v h = two_parts c a v (mean c a v h)
