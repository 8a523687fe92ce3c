-- A point within a tetrahedron, and one that is moved beside its faces, by their weights for its corners.
use Rattle.std.proofs.Common.{◌≡◌, ◌≢◌, ◌⊎◌, inl, inr, Bool, true, false, ◌&&◌, List, [], ◌∷◌, refl, sym, arith}
use Rattle.std.specs.Prelude.{ℤ, pos, ◌+ℤ◌, ◌*ℤ◌, ◌<ℤ◌, ◌≤ℤ◌}
use Rattle.std.proofs.lemmas.Bool.{false≢true}
use Rattle.std.proofs.lemmas.Int.{ints}
use Rattle.ma_geom.specs.Coordinates.{Coordinates}
use Rattle.ma_geom.specs.Rational.{IsPoint, Rational, side}
use Rattle.ma_geom.specs.Volume.{vol6}
use Rattle.ma_geom.proofs.Integers.{positive_factor}
use Rattle.ma_cover.specs.Inside.{are_alike, is_beside, is_inside}
use Rattle.ma_cover.specs.OnFaces.{IsOffFacesOf}
pub use Rattle.ma_cover.proofs.CornerWeights.{alike_itself, alike_some, by_four, is_or_not, some_a, some_b, some_c, turned_a}
use Rattle.ma_cover.proofs.CornerWeights.{alike_product, not_negative, on_face, weight_bc, weight_turn, weights}
use Rattle.ma_cover.proofs.OffFaces.{all_four}

-- ---- only what stands for a point is within
four_point : (a b c d : Coordinates) (p : Rational) → is_inside p (a ∷ b ∷ c ∷ d ∷ []) ≡ true → IsPoint p
four_point a b c d p h =
    let at = all_four (is_beside b c d a p) (is_beside a c d b p) (is_beside a b d c p) (is_beside a b c d p) h in
    record {
      positive = positive_factor (vol6 a b c d *ℤ vol6 a b c d) p.w (alike_product (vol6 a b c d) (vol6 a b c d) (alike_itself (vol6 a b c d) (alike_some (vol6 a b c d) (side a b c p) at.3).0))
          (by _ _ _ _ _ (weights a b c d p) (alike_product (vol6 b c d a) (side b c d p) at.0) (alike_product (vol6 a c d b) (side a c d p) at.1) (alike_product (vol6 a b d c) (side a b d p) at.2) (alike_product (vol6 a b c d) (side a b c p) at.3));
    }
  where
    by : (n s t u v : ℤ) → n ≡ ((s +ℤ t) +ℤ u) +ℤ v → pos 0 <ℤ s → pos 0 <ℤ t → pos 0 <ℤ u → pos 0 <ℤ v → pos 0 <ℤ n
    by n s t u v e f g h k = omega (arith, ints)

pub inside_is_point : (p : Rational) (corners : List Coordinates) → is_inside p corners ≡ true → IsPoint p
inside_is_point p (a ∷ b ∷ c ∷ d ∷ []) h = four_point a b c d p h
inside_is_point p [] h = absurd (false≢true h)
inside_is_point p (a ∷ []) h = absurd (false≢true h)
inside_is_point p (a ∷ b ∷ []) h = absurd (false≢true h)
inside_is_point p (a ∷ b ∷ c ∷ []) h = absurd (false≢true h)
inside_is_point p (a ∷ b ∷ c ∷ d ∷ e ∷ l) h = absurd (false≢true h)

-- ---- a point that keeps the sides of another
-- that a side keeps its sign, unless it is none
abbrev pub KeepsSign : ℤ → ℤ → Type 0
KeepsSign s t = s ≢ pos 0 → are_alike s t ≡ true

after : (v s t : ℤ) → KeepsSign s t → are_alike v s ≡ true → are_alike v t ≡ true
after v s t kept h = by v s t h (kept (alike_some v s h).1)
  where
    by : (v s t : ℤ) → are_alike v s ≡ true → are_alike s t ≡ true → are_alike v t ≡ true
    by v s t h k = grind (arith, ints)

-- it was strictly there, or on the plane
pub before : (v s t : ℤ) → KeepsSign s t → are_alike v t ≡ true → (s ≡ pos 0) ⊎ (are_alike v s ≡ true)
before v s t kept h = elim (is_or_not s) [ inl e ↦ inl e | inr some ↦ inr (by v s t h (kept some)) ]
  where
    by : (v s t : ℤ) → are_alike v t ≡ true → are_alike s t ≡ true → are_alike v s ≡ true
    by v s t h k = grind (arith, ints)

or_absurd : {P Q : Type 0} → P ⊎ Q → (P → ⊥) → Q
or_absurd (inl p) h = absurd (h p)
or_absurd (inr q) h = q

-- a point that is off the closed faces of a tetrahedron is within it just if one that keeps its sides is
pub inside_kept : (a b c d : Coordinates) (p q : Rational) → vol6 a b c d ≢ pos 0 → IsOffFacesOf p (a ∷ b ∷ c ∷ d ∷ [])
    → KeepsSign (side b c d p) (side b c d q) → KeepsSign (side a c d p) (side a c d q) → KeepsSign (side a b d p) (side a b d q) → KeepsSign (side a b c p) (side a b c q)
    → is_inside q (a ∷ b ∷ c ∷ d ∷ []) ≡ is_inside p (a ∷ b ∷ c ∷ d ∷ [])
inside_kept a b c d p q solid off kept_a kept_b kept_c kept_d = iff _ _ back forth
  where
    iff : (x y : Bool) → (x ≡ true → y ≡ true) → (y ≡ true → x ≡ true) → x ≡ y
    iff true true f g = refl
    iff true false f g = sym (f refl)
    iff false true f g = g refl
    iff false false f g = refl

    all : (s t u v : Bool) → s ≡ true → t ≡ true → u ≡ true → v ≡ true → (s && t && u && v) ≡ true
    all s t u v e f g h = rw (e, f, g, h) refl

    forth : is_inside p (a ∷ b ∷ c ∷ d ∷ []) ≡ true → is_inside q (a ∷ b ∷ c ∷ d ∷ []) ≡ true
    forth h =
        let at = all_four (is_beside b c d a p) (is_beside a c d b p) (is_beside a b d c p) (is_beside a b c d p) h in
        all (is_beside b c d a q) (is_beside a c d b q) (is_beside a b d c q) (is_beside a b c d q)
        (after (vol6 b c d a) (side b c d p) (side b c d q) kept_a at.0) (after (vol6 a c d b) (side a c d p) (side a c d q) kept_b at.1) (after (vol6 a b d c) (side a b d p) (side a b d q) kept_c at.2) (after (vol6 a b c d) (side a b c p) (side a b c q) kept_d at.3)

    back : is_inside q (a ∷ b ∷ c ∷ d ∷ []) ≡ true → is_inside p (a ∷ b ∷ c ∷ d ∷ []) ≡ true
    back h =
        let at = all_four (is_beside b c d a q) (is_beside a c d b q) (is_beside a b d c q) (is_beside a b c d q) h in
        let was_a = before (vol6 b c d a) (side b c d p) (side b c d q) kept_a at.0 in
        let was_b = before (vol6 a c d b) (side a c d p) (side a c d q) kept_b at.1 in
        let was_c = before (vol6 a b d c) (side a b d p) (side a b d q) kept_c at.2 in
        let was_d = before (vol6 a b c d) (side a b c p) (side a b c q) kept_d at.3 in
        let i = not_negative (vol6 b c d a) (side b c d p) was_a in
        let j = not_negative (vol6 a c d b) (side a c d p) was_b in
        let k = not_negative (vol6 a b d c) (side a b d p) was_c in
        let l = not_negative (vol6 a b c d) (side a b c p) was_d in
        all (is_beside b c d a p) (is_beside a c d b p) (is_beside a b d c p) (is_beside a b c d p)
        (or_absurd was_a (λ e. off.1.1.1.0 (on_face b c d a p (some_a a b c d solid) e (moved (weight_turn a c d b p) j) (moved (weight_turn a b d c p) k) (moved (weight_turn a b c d p) l))))
        (or_absurd was_b (λ e. off.1.1.0 (on_face a c d b p (some_b a b c d solid) e (moved (weight_turn b c d a p) i) (moved (weight_bc a b d c p) k) (moved (weight_bc a b c d p) l))))
        (or_absurd was_c (λ e. off.1.0 (on_face a b d c p (some_c a b c d solid) e (moved (weight_bc b c d a p) i) (moved (weight_bc a c d b p) j) l)))
        (or_absurd was_d (λ e. off.0 (on_face a b c d p solid e i j k)))
      where
        moved : {s t : ℤ} → s ≡ t → pos 0 ≤ℤ t → pos 0 ≤ℤ s
        moved e h = rw e h
