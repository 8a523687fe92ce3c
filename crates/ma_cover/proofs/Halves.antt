-- The halves of a tetrahedron have a point within them as often as the whole.
use Rattle.std.proofs.Common.{◌≡◌, ◌≢◌, ◌+◌, ◌⊎◌, ⊎_elim, Bool, true, false, cond, ◌&&◌, List, [], ◌∷◌, refl, sym, ap, ◌∙◌, arith}
use Rattle.std.specs.Prelude.{ℤ, pos, ◌+ℤ◌, ◌-ℤ◌, ◌*ℤ◌, neg_ℤ, ◌≤ℤ◌, ◌<ℤ◌, int_lt}
use Rattle.std.specs.List.{count_by}
use Rattle.std.proofs.Math.IntN.{*ℤ_comm}
use Rattle.std.proofs.lemmas.Int.{ints}
use Rattle.ma_geom.specs.Coordinates.{Coordinates}
use Rattle.ma_geom.specs.Rational.{Rational, IsMiddle, side}
use Rattle.ma_geom.specs.Volume.{vol6}
use Rattle.ma_geom.proofs.Identities.{vol6_exchange_cd, vol6_turn_abc, vol6_turn_bcd, vol6_half, vol6_other_half, side_middle, side_exchange_ab, side_same_ab, sides_sum, cramer_x, cramer_y, cramer_z}
use Rattle.ma_geom.proofs.Ring.{var, neg, ◌⊕◌, ◌⊖◌, ◌⊗◌, entry, ring}
use Rattle.ma_cover.specs.Inside.{are_alike, is_beside, is_inside}
use Rattle.ma_cover.specs.OnFaces.{IsOnTriangle, IsOffTriangle}
use Rattle.ma_cover.proofs.Exchanges.{inside_cd}

-- ---- signs
alike_positive : (v s : ℤ) → pos 0 <ℤ v → are_alike v s ≡ int_lt (pos 0) s
alike_positive v s h = grind (arith, ints)

alike_negative : (v u s : ℤ) → v ≡ neg_ℤ u → pos 0 <ℤ u → are_alike v s ≡ int_lt s (pos 0)
alike_negative v u s e h = grind (arith, ints)

half_positive : (v u : ℤ) → u +ℤ u ≡ v → pos 0 <ℤ v → pos 0 <ℤ u
half_positive v u e h = omega (arith, ints)

-- within a tetrahedron that turns to the left
inside_positive : (a b c d : Coordinates) (p : Rational) → pos 0 <ℤ vol6 a b c d
    → is_inside p (a ∷ b ∷ c ∷ d ∷ []) ≡ (int_lt (side b c d p) (pos 0) && int_lt (pos 0) (side a c d p) && int_lt (side a b d p) (pos 0) && int_lt (pos 0) (side a b c p))
inside_positive a b c d p h =
    let turn_a : vol6 b c d a ≡ neg_ℤ (vol6 a b c d) = vol6_exchange_cd b c a d ∙ ap neg_ℤ (vol6_turn_abc a b c d) in
    let turn_b : vol6 a c d b ≡ vol6 a b c d = vol6_turn_bcd a b c d in
    let turn_c : vol6 a b d c ≡ neg_ℤ (vol6 a b c d) = vol6_exchange_cd a b c d in
    let first : is_beside b c d a p ≡ int_lt (side b c d p) (pos 0) = alike_negative (vol6 b c d a) (vol6 a b c d) (side b c d p) turn_a h in
    let second : is_beside a c d b p ≡ int_lt (pos 0) (side a c d p) = ap (λ v. are_alike v (side a c d p)) turn_b ∙ alike_positive (vol6 a b c d) (side a c d p) h in
    let third : is_beside a b d c p ≡ int_lt (side a b d p) (pos 0) = alike_negative (vol6 a b d c) (vol6 a b c d) (side a b d p) turn_c h in
    let fourth : is_beside a b c d p ≡ int_lt (pos 0) (side a b c p) = alike_positive (vol6 a b c d) (side a b c p) h in
    four (is_beside b c d a p) (is_beside a c d b p) (is_beside a b d c p) (is_beside a b c d p) (int_lt (side b c d p) (pos 0)) (int_lt (pos 0) (side a c d p)) (int_lt (side a b d p) (pos 0)) (int_lt (pos 0) (side a b c p)) first second third fourth
  where
    four : (s t u v s' t' u' v' : Bool) → s ≡ s' → t ≡ t' → u ≡ u' → v ≡ v' → (s && t && u && v) ≡ (s' && t' && u' && v')
    four s t u v s' t' u' v' e f g h = rw (e, f, g, h) refl

-- ---- the sides at the faces of the halves
twice_zero : (s t u : ℤ) → s +ℤ s ≡ t +ℤ u → u ≡ pos 0 → s +ℤ s ≡ t
twice_zero s t u e f = omega (arith, ints)

-- at a face of the half with b
side_near : (m a b e : Coordinates) (p : Rational) → IsMiddle m a b → side m b e p +ℤ side m b e p ≡ side a b e p
side_near m a b e p middle = twice_zero (side m b e p) (side a b e p) (side b b e p) (side_middle m a b b e p middle) (side_same_ab b e p)

-- at a face of the half with a
side_far : (m a b e : Coordinates) (p : Rational) → IsMiddle m a b → side a m e p +ℤ side a m e p ≡ side a b e p
side_far m a b e p middle =
    turned (side a m e p) (side m a e p) (side a a e p) (side b a e p) (side a b e p) (side_exchange_ab m a e p) (side_middle m a b a e p middle) (side_same_ab a e p) (side_exchange_ab a b e p)
  where
    turned : (s m t u v : ℤ) → s ≡ neg_ℤ m → m +ℤ m ≡ t +ℤ u → t ≡ pos 0 → u ≡ neg_ℤ v → s +ℤ s ≡ v
    turned s m t u v e f g h = omega (arith, ints)

-- ---- on the triangle between the halves
mean : (v x A B C D a b c d m : ℤ) → m +ℤ m ≡ a +ℤ b → A ≡ neg_ℤ B
    → (((D *ℤ d) -ℤ (C *ℤ c)) +ℤ (B *ℤ b)) -ℤ (A *ℤ a) ≡ v *ℤ x → v *ℤ x ≡ (((B +ℤ B) *ℤ m) +ℤ (neg_ℤ C *ℤ c)) +ℤ (D *ℤ d)
mean v x A B C D a b c d m middle turn sum =
    let end : a ≡ (m +ℤ m) -ℤ b = omega (arith, ints) in
    let start : (((D *ℤ d) -ℤ (C *ℤ c)) +ℤ (B *ℤ b)) -ℤ (neg_ℤ B *ℤ ((m +ℤ m) -ℤ b)) ≡ v *ℤ x = rw (turn, end) at sum in
    sym start ∙ ring (entry (B ∷ C ∷ D ∷ b ∷ c ∷ d ∷ m ∷ []))
    ((((var 2 ⊗ var 5) ⊖ (var 1 ⊗ var 4)) ⊕ (var 0 ⊗ var 3)) ⊖ (neg (var 0) ⊗ ((var 6 ⊕ var 6) ⊖ var 3)))
    ((((var 0 ⊕ var 0) ⊗ var 6) ⊕ (neg (var 1) ⊗ var 4)) ⊕ (var 2 ⊗ var 5)) tt

total : (w v A B C D : ℤ) → A ≡ neg_ℤ B → ((D -ℤ C) +ℤ B) -ℤ A ≡ w *ℤ v → v *ℤ w ≡ ((B +ℤ B) +ℤ neg_ℤ C) +ℤ D
total w v A B C D turn sum =
    let start : ((D -ℤ C) +ℤ B) -ℤ neg_ℤ B ≡ w *ℤ v = rw turn at sum in
    *ℤ_comm v w ∙ sym start ∙ ring (entry (B ∷ C ∷ D ∷ [])) (((var 2 ⊖ var 1) ⊕ var 0) ⊖ neg (var 0)) (((var 0 ⊕ var 0) ⊕ neg (var 1)) ⊕ var 2) tt

opposite : (M A B : ℤ) → M +ℤ M ≡ B +ℤ A → M ≡ pos 0 → A ≡ neg_ℤ B
opposite M A B e f = omega (arith, ints)

not_negative : (s : ℤ) → pos 0 <ℤ s → pos 0 ≤ℤ (s +ℤ s)
not_negative s h = omega (arith, ints)

turned_positive : (s : ℤ) → s <ℤ pos 0 → pos 0 ≤ℤ neg_ℤ s
turned_positive s h = omega (arith, ints)

pub weaker : (s : ℤ) → pos 0 <ℤ s → pos 0 ≤ℤ s
weaker s h = omega (arith, ints)

on_middle : (m a b c d : Coordinates) (p : Rational) → IsMiddle m a b → pos 0 <ℤ vol6 a b c d
    → side m c d p ≡ pos 0 → pos 0 <ℤ side a c d p → side a b d p <ℤ pos 0 → pos 0 <ℤ side a b c p → IsOnTriangle m c d p
on_middle m a b c d p middle positive flat at_b at_c at_d =
    let A = side b c d p in
    let B = side a c d p in
    let C = side a b d p in
    let D = side a b c p in
    let turn : A ≡ neg_ℤ B = opposite (side m c d p) A B (side_middle m a b c d p middle) flat in
    record {
      i = B +ℤ B;
      j = neg_ℤ C;
      k = D;
      n = vol6 a b c d;
      first = not_negative B at_b;
      second = turned_positive C at_c;
      third = weaker D at_d;
      positive = positive;
      w = total p.w (vol6 a b c d) A B C D turn (sides_sum a b c d p);
      x = mean (vol6 a b c d) p.x A B C D a.x b.x c.x d.x m.x middle.x turn (cramer_x a b c d p);
      y = mean (vol6 a b c d) p.y A B C D a.y b.y c.y d.y m.y middle.y turn (cramer_y a b c d p);
      z = mean (vol6 a b c d) p.z A B C D a.z b.z c.z d.z m.z middle.z turn (cramer_z a b c d p);
    }

-- ---- the count, over the sides: A, B, C and D of the whole, and M between the halves
half_tests : (s t : ℤ) → s +ℤ s ≡ t → (int_lt s (pos 0) ≡ int_lt t (pos 0)) × (int_lt (pos 0) s ≡ int_lt (pos 0) t)
half_tests s t e = (grind (arith, ints), grind (arith, ints))

three : (A B M : ℤ) → M +ℤ M ≡ B +ℤ A → (M ≡ pos 0 → pos 0 <ℤ B → ⊥)
    → (0 + cond (int_lt A (pos 0) && int_lt (pos 0) M) 1 0) + cond (int_lt M (pos 0) && int_lt (pos 0) B) 1 0 ≡ 0 + cond (int_lt A (pos 0) && int_lt (pos 0) B) 1 0
three A B M e off = grind (arith, ints)

always : (x : Bool) → ((x && true) && true) ≡ x
always true = refl
always false = refl

never : (x : Bool) → (x && false) ≡ false
never true = refl
never false = refl

-- two tests that all three make matter only where they pass
both_pass : (x y z s t : Bool) → (s ≡ true → t ≡ true → (0 + cond x 1 0) + cond y 1 0 ≡ 0 + cond z 1 0)
    → (0 + cond (x && s && t) 1 0) + cond (y && s && t) 1 0 ≡ 0 + cond (z && s && t) 1 0
both_pass x y z true true h = rw (always x, always y, always z) (h refl refl)
both_pass x y z false true h = rw (never x, never y, never z) refl
both_pass x y z s false h = rw (never (x && s), never (y && s), never (z && s)) refl

below : (s : ℤ) → int_lt s (pos 0) ≡ true → s <ℤ pos 0
below s e = omega (arith, ints)

above : (s : ℤ) → int_lt (pos 0) s ≡ true → pos 0 <ℤ s
above s e = omega (arith, ints)

counted : (A B C D M C₁ D₁ C₂ D₂ : ℤ) → M +ℤ M ≡ B +ℤ A → C₁ +ℤ C₁ ≡ C → D₁ +ℤ D₁ ≡ D → C₂ +ℤ C₂ ≡ C → D₂ +ℤ D₂ ≡ D
    → (M ≡ pos 0 → pos 0 <ℤ B → C <ℤ pos 0 → pos 0 <ℤ D → ⊥)
    → (0 + cond (int_lt A (pos 0) && int_lt (pos 0) M && int_lt C₁ (pos 0) && int_lt (pos 0) D₁) 1 0)
    + cond (int_lt M (pos 0) && int_lt (pos 0) B && int_lt C₂ (pos 0) && int_lt (pos 0) D₂) 1 0
    ≡ 0 + cond (int_lt A (pos 0) && int_lt (pos 0) B && int_lt C (pos 0) && int_lt (pos 0) D) 1 0
counted A B C D M C₁ D₁ C₂ D₂ e c₁ d₁ c₂ d₂ off =
    rw ((half_tests C₁ C c₁).0, (half_tests C₂ C c₂).0, (half_tests D₁ D d₁).1, (half_tests D₂ D d₂).1)
    (both_pass (int_lt A (pos 0) && int_lt (pos 0) M) (int_lt M (pos 0) && int_lt (pos 0) B) (int_lt A (pos 0) && int_lt (pos 0) B) (int_lt C (pos 0)) (int_lt (pos 0) D)
    (λ s t. three A B M e (λ h k. off h k (below C s) (above D t))))

-- ---- a tetrahedron that turns to the left
positive_halves : (m a b c d : Coordinates) (p : Rational) → IsMiddle m a b → pos 0 <ℤ vol6 a b c d → IsOffTriangle m c d p
    → count_by (is_inside p) ((m ∷ b ∷ c ∷ d ∷ []) ∷ (a ∷ m ∷ c ∷ d ∷ []) ∷ []) ≡ count_by (is_inside p) ((a ∷ b ∷ c ∷ d ∷ []) ∷ [])
positive_halves m a b c d p middle positive off =
    rw (
      inside_positive m b c d p (half_positive (vol6 a b c d) (vol6 m b c d) (vol6_half m a b c d middle) positive),
      inside_positive a m c d p (half_positive (vol6 a b c d) (vol6 a m c d) (vol6_other_half m a b c d middle) positive),
      inside_positive a b c d p positive,
    )
    (counted (side b c d p) (side a c d p) (side a b d p) (side a b c p) (side m c d p) (side m b d p) (side m b c p) (side a m d p) (side a m c p)
    (side_middle m a b c d p middle) (side_near m a b d p middle) (side_near m a b c p middle) (side_far m a b d p middle) (side_far m a b c p middle)
    (λ flat at_b at_c at_d. off (on_middle m a b c d p middle positive flat at_b at_c at_d)))

-- ---- any tetrahedron that isn't flat
pub either_way : (v : ℤ) → v ≢ pos 0 → (pos 0 <ℤ v) ⊎ (pos 0 <ℤ neg_ℤ v)
either_way v h = grind (arith, ints)

pub on_turned : (a b c : Coordinates) (p : Rational) → IsOnTriangle a c b p → IsOnTriangle a b c p
on_turned a b c p on = record {
  i = on.i;
  j = on.k;
  k = on.j;
  n = on.n;
  first = on.first;
  second = on.third;
  third = on.second;
  positive = on.positive;
  w = on.w ∙ last_two on.i on.j on.k;
  x = on.x ∙ last_two (on.i *ℤ a.x) (on.j *ℤ c.x) (on.k *ℤ b.x);
  y = on.y ∙ last_two (on.i *ℤ a.y) (on.j *ℤ c.y) (on.k *ℤ b.y);
  z = on.z ∙ last_two (on.i *ℤ a.z) (on.j *ℤ c.z) (on.k *ℤ b.z);
}
  where
    last_two : (r s t : ℤ) → (r +ℤ s) +ℤ t ≡ (r +ℤ t) +ℤ s
    last_two r s t = omega (arith, ints)

unfoldable pub on_exchanged : (a b c : Coordinates) (p : Rational) → IsOnTriangle b a c p → IsOnTriangle a b c p
on_exchanged a b c p on = record {
  i = on.j;
  j = on.i;
  k = on.k;
  n = on.n;
  first = on.second;
  second = on.first;
  third = on.third;
  positive = on.positive;
  w = on.w ∙ first_two on.i on.j on.k;
  x = on.x ∙ first_two (on.i *ℤ b.x) (on.j *ℤ a.x) (on.k *ℤ c.x);
  y = on.y ∙ first_two (on.i *ℤ b.y) (on.j *ℤ a.y) (on.k *ℤ c.y);
  z = on.z ∙ first_two (on.i *ℤ b.z) (on.j *ℤ a.z) (on.k *ℤ c.z);
}
  where
    first_two : (r s t : ℤ) → (r +ℤ s) +ℤ t ≡ (s +ℤ r) +ℤ t
    first_two r s t = omega (arith, ints)

pub halves_keep_cover : (m a b c d : Coordinates) (p : Rational) → IsMiddle m a b → vol6 a b c d ≢ pos 0 → IsOffTriangle m c d p
    → count_by (is_inside p) ((m ∷ b ∷ c ∷ d ∷ []) ∷ (a ∷ m ∷ c ∷ d ∷ []) ∷ []) ≡ count_by (is_inside p) ((a ∷ b ∷ c ∷ d ∷ []) ∷ [])
halves_keep_cover m a b c d p middle bent off =
    ⊎_elim (λ positive. positive_halves m a b c d p middle positive off)
    (λ negative. same_count (is_inside p) (m ∷ b ∷ c ∷ d ∷ []) (a ∷ m ∷ c ∷ d ∷ []) (a ∷ b ∷ c ∷ d ∷ []) (m ∷ b ∷ d ∷ c ∷ []) (a ∷ m ∷ d ∷ c ∷ []) (a ∷ b ∷ d ∷ c ∷ [])
    (inside_cd p m b c d) (inside_cd p a m c d) (inside_cd p a b c d)
    (positive_halves m a b d c p middle (carried (vol6_exchange_cd a b c d) negative) (λ on. off (on_turned m c d p on))))
    (either_way (vol6 a b c d) bent)
  where
    carried : {s t : ℤ} → s ≡ t → pos 0 <ℤ t → pos 0 <ℤ s
    carried e h = rw e h

    same_count : (f : List Coordinates → Bool) (u v w u' v' w' : List Coordinates) → f u' ≡ f u → f v' ≡ f v → f w' ≡ f w
        → count_by f (u' ∷ v' ∷ []) ≡ count_by f (w' ∷ []) → count_by f (u ∷ v ∷ []) ≡ count_by f (w ∷ [])
    same_count f u v w u' v' w' e g h k = rw (sym e, sym g, sym h) k
