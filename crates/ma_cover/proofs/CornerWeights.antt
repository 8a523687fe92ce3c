-- A point as a mean of the corners of a tetrahedron, each weighed by how far the point is on its side of the face across from it. On a face one weight is zero and none negative.
use Rattle.std.proofs.Common.{◌≡◌, ◌≢◌, ◌⊎◌, inl, inr, ⊎_elim, subst, true, false, List, [], ◌∷◌, refl, sym, ap, ap₂, ◌∙◌, arith}
use Rattle.std.specs.Prelude.{ℤ, pos, ◌+ℤ◌, ◌-ℤ◌, ◌*ℤ◌, neg_ℤ, ◌<ℤ◌, ◌≤ℤ◌}
use Rattle.std.specs.Ordering.{int_eq}
use Rattle.std.proofs.Math.IntN.{*ℤ_comm}
use Rattle.std.proofs.lemmas.Bool.{false≢true}
use Rattle.std.proofs.lemmas.Int.{ints}
use Rattle.ma_geom.specs.Coordinates.{Coordinates}
use Rattle.ma_geom.specs.Rational.{Rational, side}
use Rattle.ma_geom.specs.Volume.{vol6}
use Rattle.ma_geom.proofs.Identities.{cramer_x, cramer_y, cramer_z, flat_exchange_cd, side_exchange_bc, side_turn, sides_sum, vol6_exchange_bc, vol6_exchange_cd, vol6_turn_abc, vol6_turn_bcd}
use Rattle.ma_geom.proofs.Integers.{positive-*ℤ}
use Rattle.ma_geom.proofs.Ring.{var, neg, ◌⊕◌, ◌⊖◌, ◌⊗◌, entry, ring}
use Rattle.ma_cells.specs.Tetrahedron.{is_flat}
use Rattle.ma_cover.specs.Inside.{are_alike}
use Rattle.ma_cover.specs.OnFaces.{IsOnTriangle}

-- ---- what holds of four corners that aren't flat, holds of all corners that aren't
not_zero : (s : ℤ) → int_eq s (pos 0) ≡ false → s ≢ pos 0
not_zero s h e = grind (arith, ints)

pub by_four : (P : List Coordinates → Type 0) → ((a b c d : Coordinates) → vol6 a b c d ≢ pos 0 → P (a ∷ b ∷ c ∷ d ∷ [])) → (corners : List Coordinates) → is_flat corners ≡ false → P corners
by_four P four (a ∷ b ∷ c ∷ d ∷ []) h = four a b c d (not_zero (vol6 a b c d) h)
by_four P four [] h = absurd (false≢true (sym h))
by_four P four (a ∷ []) h = absurd (false≢true (sym h))
by_four P four (a ∷ b ∷ []) h = absurd (false≢true (sym h))
by_four P four (a ∷ b ∷ c ∷ []) h = absurd (false≢true (sym h))
by_four P four (a ∷ b ∷ c ∷ d ∷ e ∷ l) h = absurd (false≢true (sym h))

-- ---- numbers of one sign
alike_cases : (v s : ℤ) → are_alike v s ≡ true → ((pos 0 <ℤ v) × (pos 0 <ℤ s)) ⊎ ((pos 0 <ℤ neg_ℤ v) × (pos 0 <ℤ neg_ℤ s))
alike_cases v s h = grind (arith, ints)

pub alike_product : (v s : ℤ) → are_alike v s ≡ true → pos 0 <ℤ (v *ℤ s)
alike_product v s h =
    ⊎_elim (λ both. positive-*ℤ v s both.0 both.1)
    (λ both. subst (λ t. pos 0 <ℤ t) (ring (entry (v ∷ s ∷ [])) (neg (var 0) ⊗ neg (var 1)) (var 0 ⊗ var 1) tt) (positive-*ℤ (neg_ℤ v) (neg_ℤ s) both.0 both.1))
    (alike_cases v s h)

pub alike_itself : (s : ℤ) → s ≢ pos 0 → are_alike s s ≡ true
alike_itself s h = grind (arith, ints)

pub alike_some : (v s : ℤ) → are_alike v s ≡ true → (v ≢ pos 0) × (s ≢ pos 0)
alike_some v s h = (λ e. first v s h e, λ e. second v s h e)
  where
    first : (v s : ℤ) → are_alike v s ≡ true → v ≡ pos 0 → ⊥
    first v s h e = grind (arith, ints)

    second : (v s : ℤ) → are_alike v s ≡ true → s ≡ pos 0 → ⊥
    second v s h e = grind (arith, ints)

pub is_or_not : (x : ℤ) → (x ≡ pos 0) ⊎ (x ≢ pos 0)
is_or_not x = grind (arith, ints)

-- ---- the weight of a corner
-- of d in the point, but for a factor that is the same for all four corners
abbrev pub weight : Coordinates → Coordinates → Coordinates → Coordinates → Rational → ℤ
weight a b c d p = vol6 a b c d *ℤ side a b c p

pub weight_bc : (a b c d : Coordinates) (p : Rational) → weight a c b d p ≡ weight a b c d p
weight_bc a b c d p = ap₂ (λ s t. s *ℤ t) (vol6_exchange_bc a b c d) (side_exchange_bc a b c p) ∙ twice (vol6 a b c d) (side a b c p)
  where
    twice : (s t : ℤ) → neg_ℤ s *ℤ neg_ℤ t ≡ s *ℤ t
    twice s t = ring (entry (s ∷ t ∷ [])) (neg (var 0) ⊗ neg (var 1)) (var 0 ⊗ var 1) tt

pub weight_turn : (a b c d : Coordinates) (p : Rational) → weight b c a d p ≡ weight a b c d p
weight_turn a b c d p = ap₂ (λ s t. s *ℤ t) (vol6_turn_abc a b c d) (side_turn a b c p)

module _ (a b c d : Coordinates) where
  pub turned_a : vol6 b c d a ≡ neg_ℤ (vol6 a b c d)
  turned_a = vol6_exchange_cd b c a d ∙ ap neg_ℤ (vol6_turn_abc a b c d)

  -- no face of a tetrahedron that isn't flat makes it flat
  pub some_a : vol6 a b c d ≢ pos 0 → vol6 b c d a ≢ pos 0
  some_a solid e = solid (by (vol6 b c d a) (vol6 a b c d) turned_a e)
    where
      by : (s t : ℤ) → s ≡ neg_ℤ t → s ≡ pos 0 → t ≡ pos 0
      by s t e f = omega (arith, ints)

  pub some_b : vol6 a b c d ≢ pos 0 → vol6 a c d b ≢ pos 0
  some_b solid e = solid (sym (vol6_turn_bcd a b c d) ∙ e)

  pub some_c : vol6 a b c d ≢ pos 0 → vol6 a b d c ≢ pos 0
  some_c solid e = solid (flat_exchange_cd a b d c e)

  -- a coordinate of the point by those of the corners
  mean : (v x A B C D i j k l s t u w : ℤ) → i ≡ neg_ℤ v → j ≡ v → k ≡ neg_ℤ v → l ≡ v → (((D *ℤ w) -ℤ (C *ℤ u)) +ℤ (B *ℤ t)) -ℤ (A *ℤ s) ≡ v *ℤ x
      → (v *ℤ v) *ℤ x ≡ ((((i *ℤ A) *ℤ s) +ℤ ((j *ℤ B) *ℤ t)) +ℤ ((k *ℤ C) *ℤ u)) +ℤ ((l *ℤ D) *ℤ w)
  mean v x A B C D i j k l s t u w at_i at_j at_k at_l sum =
      rw (at_i, at_j, at_k, at_l) (ring (entry (v ∷ x ∷ [])) ((var 0 ⊗ var 0) ⊗ var 1) (var 0 ⊗ (var 0 ⊗ var 1)) tt ∙ ap (λ r. v *ℤ r) (sym sum) ∙ ring (entry (v ∷ A ∷ B ∷ C ∷ D ∷ s ∷ t ∷ u ∷ w ∷ []))
      (var 0 ⊗ ((((var 4 ⊗ var 8) ⊖ (var 3 ⊗ var 7)) ⊕ (var 2 ⊗ var 6)) ⊖ (var 1 ⊗ var 5)))
      (((((neg (var 0) ⊗ var 1) ⊗ var 5) ⊕ ((var 0 ⊗ var 2) ⊗ var 6)) ⊕ ((neg (var 0) ⊗ var 3) ⊗ var 7)) ⊕ ((var 0 ⊗ var 4) ⊗ var 8)) tt)

  module _ (p : Rational) where
    pub weights : (vol6 a b c d *ℤ vol6 a b c d) *ℤ p.w ≡ ((weight b c d a p +ℤ weight a c d b p) +ℤ weight a b d c p) +ℤ weight a b c d p
    weights =
        mean (vol6 a b c d) p.w (side b c d p) (side a c d p) (side a b d p) (side a b c p) (vol6 b c d a) (vol6 a c d b) (vol6 a b d c) (vol6 a b c d) (pos 1) (pos 1) (pos 1) (pos 1)
        turned_a (vol6_turn_bcd a b c d) (vol6_exchange_cd a b c d) refl (once (side b c d p) (side a c d p) (side a b d p) (side a b c p) ∙ sides_sum a b c d p ∙ *ℤ_comm p.w (vol6 a b c d))
        ∙ units (weight b c d a p) (weight a c d b p) (weight a b d c p) (weight a b c d p)
      where
        once : (A B C D : ℤ) → (((D *ℤ pos 1) -ℤ (C *ℤ pos 1)) +ℤ (B *ℤ pos 1)) -ℤ (A *ℤ pos 1) ≡ ((D -ℤ C) +ℤ B) -ℤ A
        once A B C D = omega (arith, ints)

        units : (s t u v : ℤ) → (((s *ℤ pos 1) +ℤ (t *ℤ pos 1)) +ℤ (u *ℤ pos 1)) +ℤ (v *ℤ pos 1) ≡ ((s +ℤ t) +ℤ u) +ℤ v
        units s t u v = omega (arith, ints)

    -- where the weight of d is zero and none is negative, the point is on the face across from d
    pub on_face : vol6 a b c d ≢ pos 0 → side a b c p ≡ pos 0 → pos 0 ≤ℤ weight b c d a p → pos 0 ≤ℤ weight a c d b p → pos 0 ≤ℤ weight a b d c p → IsOnTriangle a b c p
    on_face solid flat at_a at_b at_c = record {
      i = weight b c d a p;
      j = weight a c d b p;
      k = weight a b d c p;
      n = vol6 a b c d *ℤ vol6 a b c d;
      first = at_a;
      second = at_b;
      third = at_c;
      positive = alike_product (vol6 a b c d) (vol6 a b c d) (alike_itself (vol6 a b c d) solid);
      w = weights ∙ last _ _ none;
      x = coordinate p.x a.x b.x c.x d.x (cramer_x a b c d p);
      y = coordinate p.y a.y b.y c.y d.y (cramer_y a b c d p);
      z = coordinate p.z a.z b.z c.z d.z (cramer_z a b c d p);
    }
      where
        nothing : (v s : ℤ) → s ≡ pos 0 → v *ℤ s ≡ pos 0
        nothing v s e = rw e (by v)
          where
            by : (v : ℤ) → v *ℤ pos 0 ≡ pos 0
            by v = omega (arith, ints)

        none : weight a b c d p ≡ pos 0
        none = nothing (vol6 a b c d) (side a b c p) flat

        last : (s t : ℤ) → t ≡ pos 0 → s +ℤ t ≡ s
        last s t e = omega (arith, ints)

        no_times : (t s : ℤ) → t ≡ pos 0 → t *ℤ s ≡ pos 0
        no_times t s e = *ℤ_comm t s ∙ nothing s t e

        coordinate : (x s t u v : ℤ) → (((side a b c p *ℤ v) -ℤ (side a b d p *ℤ u)) +ℤ (side a c d p *ℤ t)) -ℤ (side b c d p *ℤ s) ≡ vol6 a b c d *ℤ x
            → (vol6 a b c d *ℤ vol6 a b c d) *ℤ x ≡ ((weight b c d a p *ℤ s) +ℤ (weight a c d b p *ℤ t)) +ℤ (weight a b d c p *ℤ u)
        coordinate x s t u v sum =
            mean (vol6 a b c d) x (side b c d p) (side a c d p) (side a b d p) (side a b c p) (vol6 b c d a) (vol6 a c d b) (vol6 a b d c) (vol6 a b c d) s t u v
            turned_a (vol6_turn_bcd a b c d) (vol6_exchange_cd a b c d) refl sum
            ∙ last _ _ (no_times (weight a b c d p) v none)

-- no weight is negative where the point isn't across the plane of a face
pub not_negative : (v s : ℤ) → (s ≡ pos 0) ⊎ (are_alike v s ≡ true) → pos 0 ≤ℤ (v *ℤ s)
not_negative v s (inl e) = rw e (by v)
  where
    by : (v : ℤ) → pos 0 ≤ℤ (v *ℤ pos 0)
    by v = omega (arith, ints)
not_negative v s (inr h) = weaker (v *ℤ s) (alike_product v s h)
  where
    weaker : (n : ℤ) → pos 0 <ℤ n → pos 0 ≤ℤ n
    weaker n h = omega (arith, ints)
