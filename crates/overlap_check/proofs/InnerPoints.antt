-- The value of a form at a point within a tetrahedron, and that no point is within two that are separated.
use Rattle.std.proofs.Common.{◌≡◌, ◌≢◌, ◌⊎◌, inl, inr, Bool, true, false, not, ◌&&◌, ◌||◌, List, [], ◌∷◌, refl, sym, ap, subst, ◌∙◌, arith}
use Rattle.std.specs.Prelude.{ℤ, pos, neg_ℤ, ◌+ℤ◌, ◌-ℤ◌, ◌*ℤ◌, ◌≤ℤ◌, ◌<ℤ◌, int_le, map}
use Rattle.std.specs.List.{list_all, list_any}
use Rattle.std.proofs.lemmas.Bool.{and_parts, false≢true, or_cases}
use Rattle.std.proofs.lemmas.Int.{ints}
use Rattle.ma_geom.specs.Coordinates.{Coordinates}
use Rattle.ma_geom.specs.Lines.{is_zero}
use Rattle.ma_geom.specs.Rational.{Rational, side}
use Rattle.ma_geom.specs.Volume.{dot, vol6}
use Rattle.ma_geom.proofs.Identities.{sides_sum, vol6_exchange_cd, vol6_turn_abc, vol6_turn_bcd}
use Rattle.ma_geom.proofs.Integers.{not_negative-*ℤ, positive-*ℤ, positive_factor}
use Rattle.ma_geom.proofs.Ring.{neg, var, ◌⊕◌, ◌⊖◌, ◌⊗◌, entry, ring}
use Rattle.ma_cover.specs.Inside.{are_alike, is_beside, is_inside}
use Rattle.overlap_check.specs.Forms.{forms}
use Rattle.overlap_check.specs.Overlap.{are_apart, are_separated, is_apart, is_below}
use Rattle.overlap_check.proofs.FormValues.{level_is_zero, value_at, value_mean}
use Rattle.ma_cover.proofs.Halves.{weaker}
use Rattle.ma_cover.proofs.OffFaces.{all_four}

-- ---- a point within a tetrahedron is a mean of its corners, all of which weigh something
pub record IsInner (p : Rational) (corners : List Coordinates) : Type 0 where
  pub a : Coordinates
  pub b : Coordinates
  pub c : Coordinates
  pub d : Coordinates
  pub listed : corners ≡ a ∷ b ∷ c ∷ d ∷ []
  pub solid : vol6 a b c d ≢ pos 0
  -- the weights, and their sum where w is 1
  pub i : ℤ
  pub j : ℤ
  pub k : ℤ
  pub l : ℤ
  pub m : ℤ
  pub i_known : pos 0 <ℤ i
  pub j_known : pos 0 <ℤ j
  pub k_known : pos 0 <ℤ k
  pub l_known : pos 0 <ℤ l
  pub m_known : pos 0 <ℤ m
  pub sum : ((i +ℤ j) +ℤ k) +ℤ l ≡ m *ℤ p.w
  pub mean : (n : Coordinates) → (((i *ℤ dot n a) +ℤ (j *ℤ dot n b)) +ℤ (k *ℤ dot n c)) +ℤ (l *ℤ dot n d) ≡ m *ℤ value_at n p

alike_product : (x y : ℤ) → are_alike x y ≡ true → pos 0 <ℤ (x *ℤ y)
alike_product x y h = elim (either_sign x y h) [
  | inl both ↦ positive-*ℤ x y both.0 both.1
  | inr both ↦ subst (λ t. pos 0 <ℤ t) (turned x y) (positive-*ℤ (neg_ℤ x) (neg_ℤ y) both.0 both.1)
]
  where
    either_sign : (x y : ℤ) → are_alike x y ≡ true → ((pos 0 <ℤ x) × (pos 0 <ℤ y)) ⊎ ((pos 0 <ℤ neg_ℤ x) × (pos 0 <ℤ neg_ℤ y))
    either_sign x y h = grind (arith, ints)

    turned : (x y : ℤ) → neg_ℤ x *ℤ neg_ℤ y ≡ x *ℤ y
    turned x y = ring (entry (x ∷ y ∷ [])) (neg (var 0) ⊗ neg (var 1)) (var 0 ⊗ var 1) tt

alike_not_zero : (x y : ℤ) → are_alike x y ≡ true → x ≢ pos 0
alike_not_zero x y h e = grind (arith, ints)

square_positive : (x y : ℤ) → are_alike x y ≡ true → pos 0 <ℤ (x *ℤ x)
square_positive x y h = alike_product x x (itself x y h)
  where
    itself : (x y : ℤ) → are_alike x y ≡ true → are_alike x x ≡ true
    itself x y h = grind (arith, ints)

-- both sides of an equation of sides, times the volume
weighed : (V A B C D fa fb fc fd g va vb vc : ℤ) → va ≡ neg_ℤ V → vb ≡ V → vc ≡ neg_ℤ V
    → (((D *ℤ fd) -ℤ (C *ℤ fc)) +ℤ (B *ℤ fb)) -ℤ (A *ℤ fa) ≡ V *ℤ g
    → ((((va *ℤ A) *ℤ fa) +ℤ ((vb *ℤ B) *ℤ fb)) +ℤ ((vc *ℤ C) *ℤ fc)) +ℤ ((V *ℤ D) *ℤ fd) ≡ (V *ℤ V) *ℤ g
weighed V A B C D fa fb fc fd g va vb vc turn_a turn_b turn_c mean =
    rw (turn_a, turn_b, turn_c)
    (ring (entry (V ∷ A ∷ B ∷ C ∷ D ∷ fa ∷ fb ∷ fc ∷ fd ∷ []))
    (((((neg (var 0) ⊗ var 1) ⊗ var 5) ⊕ ((var 0 ⊗ var 2) ⊗ var 6)) ⊕ ((neg (var 0) ⊗ var 3) ⊗ var 7)) ⊕ ((var 0 ⊗ var 4) ⊗ var 8))
    (var 0 ⊗ ((((var 4 ⊗ var 8) ⊖ (var 3 ⊗ var 7)) ⊕ (var 2 ⊗ var 6)) ⊖ (var 1 ⊗ var 5))) tt
    ∙ ap (λ t. V *ℤ t) mean
    ∙ ring (entry (V ∷ g ∷ [])) (var 0 ⊗ (var 0 ⊗ var 1)) ((var 0 ⊗ var 0) ⊗ var 1) tt)

weights_sum : (V A B C D w va vb vc : ℤ) → va ≡ neg_ℤ V → vb ≡ V → vc ≡ neg_ℤ V → ((D -ℤ C) +ℤ B) -ℤ A ≡ w *ℤ V
    → (((va *ℤ A) +ℤ (vb *ℤ B)) +ℤ (vc *ℤ C)) +ℤ (V *ℤ D) ≡ (V *ℤ V) *ℤ w
weights_sum V A B C D w va vb vc turn_a turn_b turn_c sum =
    rw (turn_a, turn_b, turn_c)
    (ring (entry (V ∷ A ∷ B ∷ C ∷ D ∷ []))
    ((((neg (var 0) ⊗ var 1) ⊕ (var 0 ⊗ var 2)) ⊕ (neg (var 0) ⊗ var 3)) ⊕ (var 0 ⊗ var 4))
    (var 0 ⊗ (((var 4 ⊖ var 3) ⊕ var 2) ⊖ var 1)) tt
    ∙ ap (λ t. V *ℤ t) sum
    ∙ ring (entry (V ∷ w ∷ [])) (var 0 ⊗ (var 1 ⊗ var 0)) ((var 0 ⊗ var 0) ⊗ var 1) tt)

inner_four : (p : Rational) (a b c d : Coordinates) → is_inside p (a ∷ b ∷ c ∷ d ∷ []) ≡ true → IsInner p (a ∷ b ∷ c ∷ d ∷ [])
inner_four p a b c d h =
    let all = all_four (is_beside b c d a p) (is_beside a c d b p) (is_beside a b d c p) (is_beside a b c d p) h in
    let V = vol6 a b c d in
    let turn_a : vol6 b c d a ≡ neg_ℤ V = vol6_exchange_cd b c a d ∙ ap neg_ℤ (vol6_turn_abc a b c d) in
    let turn_b : vol6 a c d b ≡ V = vol6_turn_bcd a b c d in
    let turn_c : vol6 a b d c ≡ neg_ℤ V = vol6_exchange_cd a b c d in
    record {
      a = a;
      b = b;
      c = c;
      d = d;
      listed = refl;
      solid = alike_not_zero V (side a b c p) all.3;
      i = vol6 b c d a *ℤ side b c d p;
      j = vol6 a c d b *ℤ side a c d p;
      k = vol6 a b d c *ℤ side a b d p;
      l = V *ℤ side a b c p;
      m = V *ℤ V;
      i_known = alike_product (vol6 b c d a) (side b c d p) all.0;
      j_known = alike_product (vol6 a c d b) (side a c d p) all.1;
      k_known = alike_product (vol6 a b d c) (side a b d p) all.2;
      l_known = alike_product V (side a b c p) all.3;
      m_known = square_positive V (side a b c p) all.3;
      sum = weights_sum V (side b c d p) (side a c d p) (side a b d p) (side a b c p) p.w (vol6 b c d a) (vol6 a c d b) (vol6 a b d c) turn_a turn_b turn_c (sides_sum a b c d p);
      mean = λ n.
          weighed V (side b c d p) (side a c d p) (side a b d p) (side a b c p) (dot n a) (dot n b) (dot n c) (dot n d) (value_at n p)
          (vol6 b c d a) (vol6 a c d b) (vol6 a b d c) turn_a turn_b turn_c (value_mean n a b c d p);
    }

pub inner : (p : Rational) (corners : List Coordinates) → is_inside p corners ≡ true → IsInner p corners
inner p [] h = absurd (false≢true h)
inner p (a ∷ []) h = absurd (false≢true h)
inner p (a ∷ b ∷ []) h = absurd (false≢true h)
inner p (a ∷ b ∷ c ∷ []) h = absurd (false≢true h)
inner p (a ∷ b ∷ c ∷ d ∷ []) h = inner_four p a b c d h
inner p (a ∷ b ∷ c ∷ d ∷ e ∷ l) h = absurd (false≢true h)

-- ---- a form that isn't zero is lower at such a point than a number that it doesn't pass at the corners
term : (i u : ℤ) → pos 0 <ℤ i → pos 0 ≤ℤ u → (u ≡ pos 0) ⊎ (pos 0 <ℤ (i *ℤ u))
term i u h k = elim (zero_or_more u k) [ inl e ↦ inl e | inr more ↦ inr (positive-*ℤ i u h more) ]
  where
    zero_or_more : (u : ℤ) → pos 0 ≤ℤ u → (u ≡ pos 0) ⊎ (pos 0 <ℤ u)
    zero_or_more u k = grind (arith, ints)

-- four terms, not all of them zero
some_term : (u v s t U V S T : ℤ) → (u ≡ pos 0) ⊎ (pos 0 <ℤ U) → (v ≡ pos 0) ⊎ (pos 0 <ℤ V) → (s ≡ pos 0) ⊎ (pos 0 <ℤ S) → (t ≡ pos 0) ⊎ (pos 0 <ℤ T)
    → pos 0 ≤ℤ U → pos 0 ≤ℤ V → pos 0 ≤ℤ S → pos 0 ≤ℤ T → (u ≡ pos 0 → v ≡ pos 0 → s ≡ pos 0 → t ≡ pos 0 → ⊥) → pos 0 <ℤ (((U +ℤ V) +ℤ S) +ℤ T)
some_term u v s t U V S T (inr h) _ _ _ u_in v_in s_in t_in some = omega (arith, ints)
some_term u v s t U V S T (inl e) (inr h) _ _ u_in v_in s_in t_in some = omega (arith, ints)
some_term u v s t U V S T (inl e) (inl f) (inr h) _ u_in v_in s_in t_in some = omega (arith, ints)
some_term u v s t U V S T (inl e) (inl f) (inl g) (inr h) u_in v_in s_in t_in some = omega (arith, ints)
some_term u v s t U V S T (inl e) (inl f) (inl g) (inl h) u_in v_in s_in t_in some = absurd (some e f g h)

some_weight : (i j k l u v s t : ℤ) → pos 0 <ℤ i → pos 0 <ℤ j → pos 0 <ℤ k → pos 0 <ℤ l → pos 0 ≤ℤ u → pos 0 ≤ℤ v → pos 0 ≤ℤ s → pos 0 ≤ℤ t
    → (u ≡ pos 0 → v ≡ pos 0 → s ≡ pos 0 → t ≡ pos 0 → ⊥) → pos 0 <ℤ ((((i *ℤ u) +ℤ (j *ℤ v)) +ℤ (k *ℤ s)) +ℤ (l *ℤ t))
some_weight i j k l u v s t i_in j_in k_in l_in u_in v_in s_in t_in some =
    some_term u v s t (i *ℤ u) (j *ℤ v) (k *ℤ s) (l *ℤ t) (term i u i_in u_in) (term j v j_in v_in) (term k s k_in s_in) (term l t l_in t_in)
    (not_negative-*ℤ i u (weaker i i_in) u_in) (not_negative-*ℤ j v (weaker j j_in) v_in) (not_negative-*ℤ k s (weaker k k_in) s_in) (not_negative-*ℤ l t (weaker l l_in) t_in)
    some

-- a number less four values, each as often as its weight says
less_values : (i j k l m fa fb fc fd g w t : ℤ) → ((i +ℤ j) +ℤ k) +ℤ l ≡ m *ℤ w → (((i *ℤ fa) +ℤ (j *ℤ fb)) +ℤ (k *ℤ fc)) +ℤ (l *ℤ fd) ≡ m *ℤ g
    → (((i *ℤ (t -ℤ fa)) +ℤ (j *ℤ (t -ℤ fb))) +ℤ (k *ℤ (t -ℤ fc))) +ℤ (l *ℤ (t -ℤ fd)) ≡ m *ℤ ((t *ℤ w) -ℤ g)
less_values i j k l m fa fb fc fd g w t sum mean =
    ring (entry (i ∷ j ∷ k ∷ l ∷ fa ∷ fb ∷ fc ∷ fd ∷ t ∷ []))
    ((((var 0 ⊗ (var 8 ⊖ var 4)) ⊕ (var 1 ⊗ (var 8 ⊖ var 5))) ⊕ (var 2 ⊗ (var 8 ⊖ var 6))) ⊕ (var 3 ⊗ (var 8 ⊖ var 7)))
    ((var 8 ⊗ (((var 0 ⊕ var 1) ⊕ var 2) ⊕ var 3)) ⊖ ((((var 0 ⊗ var 4) ⊕ (var 1 ⊗ var 5)) ⊕ (var 2 ⊗ var 6)) ⊕ (var 3 ⊗ var 7))) tt
    ∙ ap (λ s. (t *ℤ s) -ℤ ((((i *ℤ fa) +ℤ (j *ℤ fb)) +ℤ (k *ℤ fc)) +ℤ (l *ℤ fd))) sum
    ∙ ap (λ s. (t *ℤ (m *ℤ w)) -ℤ s) mean
    ∙ ring (entry (m ∷ w ∷ g ∷ t ∷ [])) ((var 3 ⊗ (var 0 ⊗ var 1)) ⊖ (var 0 ⊗ var 2)) (var 0 ⊗ ((var 3 ⊗ var 1) ⊖ var 2)) tt

gap : (v t : ℤ) → int_le v t ≡ true → pos 0 ≤ℤ (t -ℤ v)
gap v t h = omega (arith, ints)

no_gap : (v t : ℤ) → t -ℤ v ≡ pos 0 → v ≡ t
no_gap v t h = omega (arith, ints)

lower : (v t : ℤ) → pos 0 <ℤ (t -ℤ v) → v <ℤ t
lower v t h = omega (arith, ints)

four_pass : {X : Type 0} (f : X → Bool) (a b c d : X) → list_all f (a ∷ b ∷ c ∷ d ∷ []) ≡ true → (f a ≡ true) × (f b ≡ true) × (f c ≡ true) × (f d ≡ true)
four_pass f a b c d h = each (f a) (f b) (f c) (f d) h
  where
    each : (s t u v : Bool) → (s && (t && (u && (v && true)))) ≡ true → (s ≡ true) × (t ≡ true) × (u ≡ true) × (v ≡ true)
    each true true true true e = (refl, refl, refl, refl)
    each true true true false e = absurd (false≢true e)
    each true true false v e = absurd (false≢true e)
    each true false u v e = absurd (false≢true e)
    each false t u v e = absurd (false≢true e)

-- the form takes a value below t over corners that aren't flat, if it isn't zero and is nowhere above t
pub strictly_below : (n : Coordinates) (p : Rational) (corners : List Coordinates) (t : ℤ) → is_zero n ≡ false → IsInner p corners
    → list_all (λ v. int_le v t) (map (dot n) corners) ≡ true → value_at n p <ℤ (t *ℤ p.w)
strictly_below n p corners t slanted within below =
    let all = four_pass (λ v. int_le v t) (dot n within.a) (dot n within.b) (dot n within.c) (dot n within.d) (ap (λ l. list_all (λ v. int_le v t) (map (dot n) l)) (sym within.listed) ∙ below) in
    let fa = dot n within.a in
    let fb = dot n within.b in
    let fc = dot n within.c in
    let fd = dot n within.d in
    let sum = some_weight within.i within.j within.k within.l (t -ℤ fa) (t -ℤ fb) (t -ℤ fc) (t -ℤ fd) within.i_known within.j_known within.k_known within.l_known
    (gap fa t all.0) (gap fb t all.1) (gap fc t all.2) (gap fd t all.3)
    (λ at_a at_b at_c at_d. false≢true (sym slanted ∙ level_is_zero n within.a within.b within.c within.d t within.solid (no_gap fa t at_a) (no_gap fb t at_b) (no_gap fc t at_c) (no_gap fd t at_d))) in
    lower (value_at n p) (t *ℤ p.w)
    (positive_factor within.m ((t *ℤ p.w) -ℤ value_at n p) within.m_known
    (subst (λ s. pos 0 <ℤ s) (less_values within.i within.j within.k within.l within.m fa fb fc fd (value_at n p) p.w t within.sum (within.mean n)) sum))

-- ---- no form is at such a point lower than at each corner
excess : (i j k l m fa fb fc fd g w : ℤ) → ((i +ℤ j) +ℤ k) +ℤ l ≡ m *ℤ w → (((i *ℤ fa) +ℤ (j *ℤ fb)) +ℤ (k *ℤ fc)) +ℤ (l *ℤ fd) ≡ m *ℤ g
    → (((i *ℤ ((fa *ℤ w) -ℤ g)) +ℤ (j *ℤ ((fb *ℤ w) -ℤ g))) +ℤ (k *ℤ ((fc *ℤ w) -ℤ g))) +ℤ (l *ℤ ((fd *ℤ w) -ℤ g)) ≡ pos 0
excess i j k l m fa fb fc fd g w sum mean =
    ring (entry (i ∷ j ∷ k ∷ l ∷ fa ∷ fb ∷ fc ∷ fd ∷ g ∷ w ∷ []))
    ((((var 0 ⊗ ((var 4 ⊗ var 9) ⊖ var 8)) ⊕ (var 1 ⊗ ((var 5 ⊗ var 9) ⊖ var 8))) ⊕ (var 2 ⊗ ((var 6 ⊗ var 9) ⊖ var 8))) ⊕ (var 3 ⊗ ((var 7 ⊗ var 9) ⊖ var 8)))
    ((((((var 0 ⊗ var 4) ⊕ (var 1 ⊗ var 5)) ⊕ (var 2 ⊗ var 6)) ⊕ (var 3 ⊗ var 7)) ⊗ var 9) ⊖ ((((var 0 ⊕ var 1) ⊕ var 2) ⊕ var 3) ⊗ var 8)) tt
    ∙ ap (λ s. (s *ℤ w) -ℤ ((((i +ℤ j) +ℤ k) +ℤ l) *ℤ g)) mean
    ∙ ap (λ s. ((m *ℤ g) *ℤ w) -ℤ (s *ℤ g)) sum
    ∙ ring (entry (m ∷ w ∷ g ∷ [])) (((var 0 ⊗ var 2) ⊗ var 1) ⊖ ((var 0 ⊗ var 1) ⊗ var 2)) (var 0 ⊖ var 0) tt
    ∙ nothing m
  where
    nothing : (m : ℤ) → m -ℤ m ≡ pos 0
    nothing m = omega (arith, ints)

four_positive : (u v s t : ℤ) → pos 0 <ℤ u → pos 0 <ℤ v → pos 0 <ℤ s → pos 0 <ℤ t → ((u +ℤ v) +ℤ s) +ℤ t ≡ pos 0 → ⊥
four_positive u v s t u_in v_in s_in t_in e = omega (arith, ints)

above : (v t : ℤ) → v <ℤ t → pos 0 <ℤ (t -ℤ v)
above v t h = omega (arith, ints)

pub not_below_all : (n : Coordinates) (p : Rational) (corners : List Coordinates) (within : IsInner p corners)
    → value_at n p <ℤ (dot n within.a *ℤ p.w) → value_at n p <ℤ (dot n within.b *ℤ p.w) → value_at n p <ℤ (dot n within.c *ℤ p.w) → value_at n p <ℤ (dot n within.d *ℤ p.w) → ⊥
not_below_all n p corners within at_a at_b at_c at_d =
    let g = value_at n p in
    let ea = (dot n within.a *ℤ p.w) -ℤ g in
    let eb = (dot n within.b *ℤ p.w) -ℤ g in
    let ec = (dot n within.c *ℤ p.w) -ℤ g in
    let ed = (dot n within.d *ℤ p.w) -ℤ g in
    four_positive (within.i *ℤ ea) (within.j *ℤ eb) (within.k *ℤ ec) (within.l *ℤ ed)
    (positive-*ℤ within.i ea within.i_known (above g (dot n within.a *ℤ p.w) at_a)) (positive-*ℤ within.j eb within.j_known (above g (dot n within.b *ℤ p.w) at_b))
    (positive-*ℤ within.k ec within.k_known (above g (dot n within.c *ℤ p.w) at_c)) (positive-*ℤ within.l ed within.l_known (above g (dot n within.d *ℤ p.w) at_d))
    (excess within.i within.j within.k within.l within.m (dot n within.a) (dot n within.b) (dot n within.c) (dot n within.d) g p.w within.sum (within.mean n))

-- ---- separated tetrahedra
-- each number of the second list is above none of the first
columns : (vs : List ℤ) (a b c d : ℤ) → is_below vs (a ∷ b ∷ c ∷ d ∷ []) ≡ true
    → (list_all (λ v. int_le v a) vs ≡ true) × (list_all (λ v. int_le v b) vs ≡ true) × (list_all (λ v. int_le v c) vs ≡ true) × (list_all (λ v. int_le v d) vs ≡ true)
columns [] a b c d h = (refl, refl, refl, refl)
columns (v ∷ vs) a b c d h =
    let parts = and_parts (list_all (int_le v) (a ∷ b ∷ c ∷ d ∷ [])) (is_below vs (a ∷ b ∷ c ∷ d ∷ [])) h in
    let row = four_pass (int_le v) a b c d parts.0 in
    let rest = columns vs a b c d parts.1 in
    (pair row.0 rest.0, pair row.1 rest.1, pair row.2 rest.2, pair row.3 rest.3)
  where
    pair : {s t : Bool} → s ≡ true → t ≡ true → (s && t) ≡ true
    pair e f = rw (e, f) refl

below_share_none : (p : Rational) (n : Coordinates) (a b : List Coordinates) → is_zero n ≡ false → is_below (map (dot n) a) (map (dot n) b) ≡ true
    → is_inside p a ≡ true → is_inside p b ≡ true → ⊥
below_share_none p n a b slanted below in_a in_b =
    let first = inner p a in_a in
    let second = inner p b in_b in
    let all = columns (map (dot n) a) (dot n second.a) (dot n second.b) (dot n second.c) (dot n second.d)
    (ap (λ l. is_below (map (dot n) a) (map (dot n) l)) (sym second.listed) ∙ below) in
    not_below_all n p b second
    (strictly_below n p a (dot n second.a) slanted first all.0) (strictly_below n p a (dot n second.b) slanted first all.1)
    (strictly_below n p a (dot n second.c) slanted first all.2) (strictly_below n p a (dot n second.d) slanted first all.3)

-- a form that separates two tetrahedra, the first of which may be the lower
pub record SeparatingForm (a b : List Coordinates) : Type 0 where
  pub n : Coordinates
  pub slanted : is_zero n ≡ false
  pub below : (is_below (map (dot n) a) (map (dot n) b) ≡ true) ⊎ (is_below (map (dot n) b) (map (dot n) a) ≡ true)

passing : (f : Coordinates → Bool) (ns : List Coordinates) → list_any f ns ≡ true → (n : Coordinates) × (f n ≡ true)
passing f [] h = absurd (false≢true h)
passing f (n ∷ ns) h =
    elim (f n) as (λ b. f n ≡ b → (b || list_any f ns) ≡ true → (m : Coordinates) × (f m ≡ true)) [
      | true ↦ λ e _. (n, e)
      | false ↦ λ _ k. passing f ns k
    ] refl h

pub separating_form : (a b : List Coordinates) → are_separated a b ≡ true → SeparatingForm a b
unfolding are_separated
separating_form a b h =
    let found = passing (λ n. is_apart n a b) (forms a b) h in
    let n = found.0 in
    let parts = both (is_zero n) (are_apart (map (dot n) a) (map (dot n) b)) found.1 in
    record { n = n; slanted = parts.0; below = or_cases (is_below (map (dot n) a) (map (dot n) b)) (is_below (map (dot n) b) (map (dot n) a)) parts.1 }
  where
    both : (s t : Bool) → (not s && t) ≡ true → (s ≡ false) × (t ≡ true)
    both true t e = absurd (false≢true e)
    both false t e = (refl, e)

pub separated_share_no_point : (p : Rational) (a b : List Coordinates) → are_separated a b ≡ true → is_inside p a ≡ true → is_inside p b ≡ true → ⊥
separated_share_no_point p a b h in_a in_b =
    let by = separating_form a b h in
    elim by.below [
      | inl below ↦ below_share_none p by.n a b by.slanted below in_a in_b
      | inr below ↦ below_share_none p by.n b a by.slanted below in_b in_a
    ]
