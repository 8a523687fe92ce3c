-- A point on a triangle has one near it within the tetrahedron over the triangle, off any planes. A triangle of the plane has the point if the tetrahedron over it has the near one.
use Rattle.std.proofs.Common.{◌≡◌, ◌≢◌, zero, suc, ◌⊎◌, inl, inr, ℕ, ◌<◌, Bool, true, false, ◌&&◌, List, [], ◌∷◌, refl, sym, ap, subst, ◌∙◌, arith}
use Rattle.std.specs.Prelude.{ℤ, pos, negsuc, ◌+ℤ◌, ◌*ℤ◌, ◌<ℤ◌, ◌≤ℤ◌, unsigned_abs}
use Rattle.std.specs.List.{AllByRecursion}
use Rattle.std.specs.Ordering.{int_eq}
use Rattle.std.proofs.lemmas.Int.{ints}
use Rattle.ma_geom.specs.Coordinates.{Coordinates}
use Rattle.ma_geom.specs.Rational.{IsPoint, Rational, side}
use Rattle.ma_geom.specs.Volume.{vol6}
use Rattle.ma_geom.proofs.Identities.{vol6_same_ad, vol6_same_bd}
use Rattle.ma_geom.proofs.Reified.{Quadruple, place, point, point_and_places, side'}
use Rattle.ma_geom.proofs.Ring.{◌⊕◌, ◌⊗◌, ring}
use Rattle.ma_cover.specs.Inside.{are_alike, is_beside, is_inside}
use Rattle.ma_cover.specs.OnFaces.{IsOnTriangle}
use Rattle.ma_cover.proofs.CornerWeights.{not_negative, on_face}
use Rattle.ma_cover.proofs.OffFaces.{all_four, inside_is_off_faces, on_side, side_of_mean}
use Rattle.mesh_laws.specs.Points.{IsMovedOffPlane}
use Rattle.mesh_laws.proofs.Lists.{all_two}
use Rattle.mesh_laws.proofs.Moved.{alike_multiple, bound}
use Rattle.mesh_laws.proofs.MovedOff.{move_off}
use Rattle.mesh_laws.proofs.OneSide.{tetrahedron_has_point}
use Rattle.mesh_laws.proofs.Weights.{KeepsSign, alike_some, before, inside_is_point}

-- k times p, and r
abbrev mixed : ℤ → Rational → Rational → Rational
mixed k p r = record { x = (k *ℤ p.x) +ℤ r.x; y = (k *ℤ p.y) +ℤ r.y; z = (k *ℤ p.z) +ℤ r.z; w = (k *ℤ p.w) +ℤ r.w }

side_mixed : (k : ℤ) (a b c : Coordinates) (p r : Rational) → side a b c (mixed k p r) ≡ (k *ℤ side a b c p) +ℤ side a b c r
unfolding side
side_mixed k a b c p r =
    let numbers = place 4 in
    let R : Quadruple = record { x = (place 3).x; y = (place 3).y; z = (place 3).z; w = numbers.x } in
    let K = numbers.y in
    ring (point_and_places p (a ∷ b ∷ c ∷ record { x = r.x; y = r.y; z = r.z } ∷ record { x = r.w; y = k; z = pos 0 } ∷ []))
    (side' (place 0) (place 1) (place 2) (record { x = (K ⊗ point.x) ⊕ R.x; y = (K ⊗ point.y) ⊕ R.y; z = (K ⊗ point.z) ⊕ R.z; w = (K ⊗ point.w) ⊕ R.w }))
    ((K ⊗ side' (place 0) (place 1) (place 2) point) ⊕ side' (place 0) (place 1) (place 2) R) tt

-- ---- numbers
-- that s has the sign of v, or is zero
abbrev IsWeakly : ℤ → ℤ → Type 0
IsWeakly v s = (s ≡ pos 0) ⊎ (are_alike v s ≡ true)

weighted : (n i v s : ℤ) → pos 0 <ℤ n → pos 0 ≤ℤ i → n *ℤ s ≡ i *ℤ v → IsWeakly v s
weighted (pos zero) i v s g h e = absurd (omega (arith, ints))
weighted (negsuc n) i v s g h e = absurd (omega (arith, ints))
weighted (pos (suc n)) (negsuc i) v s g h e = absurd (omega (arith, ints))
weighted (pos (suc n)) (pos i) v (pos zero) g h e = inl refl
weighted (pos (suc n)) (pos i) (pos zero) (pos (suc s)) g h e = absurd (omega (arith, ints))
weighted (pos (suc n)) (pos i) (pos (suc v)) (pos (suc s)) g h e = inr (grind (arith, ints))
weighted (pos (suc n)) (pos i) (negsuc v) (pos (suc s)) g h e = absurd (omega (arith, ints))
weighted (pos (suc n)) (pos i) (pos v) (negsuc s) g h e = absurd (omega (arith, ints))
weighted (pos (suc n)) (pos i) (negsuc v) (negsuc s) g h e = inr (grind (arith, ints))

alike_sum : (k : ℕ) (v s t : ℤ) → IsWeakly v s → are_alike v t ≡ true → are_alike v ((pos k *ℤ s) +ℤ t) ≡ true
alike_sum k v s t (inl e) h = ap (λ r. are_alike v ((pos k *ℤ r) +ℤ t)) e ∙ ap (are_alike v) (by (pos k) t) ∙ h
  where
    by : (k t : ℤ) → (k *ℤ pos 0) +ℤ t ≡ t
    by k t = omega (arith, ints)
alike_sum k v s t (inr g) h = by v (pos k *ℤ s) t (sign k v s g) h
  where
    sign : (k : ℕ) (v s : ℤ) → are_alike v s ≡ true → ((pos 0 <ℤ v) × (pos 0 ≤ℤ (pos k *ℤ s))) ⊎ ((v <ℤ pos 0) × ((pos k *ℤ s) ≤ℤ pos 0))
    sign k v (pos s) h = inl (first v s h, omega (arith, ints))
      where
        first : (v : ℤ) (s : ℕ) → are_alike v (pos s) ≡ true → pos 0 <ℤ v
        first v s h = grind (arith, ints)
    sign k v (negsuc s) h = inr (second v s h, omega (arith, ints))
      where
        second : (v : ℤ) (s : ℕ) → are_alike v (negsuc s) ≡ true → v <ℤ pos 0
        second v s h = grind (arith, ints)

    by : (v u t : ℤ) → ((pos 0 <ℤ v) × (pos 0 ≤ℤ u)) ⊎ ((v <ℤ pos 0) × (u ≤ℤ pos 0)) → are_alike v t ≡ true → are_alike v (u +ℤ t) ≡ true
    by v u t (inl e) h = grind (arith, ints)
    by v u t (inr e) h = grind (arith, ints)

alike_alike : (x y z : ℤ) → are_alike x y ≡ true → are_alike y z ≡ true → are_alike x z ≡ true
alike_alike x y z h k = grind (arith, ints)

only_first : (i j k u v w : ℤ) → v ≡ pos 0 → w ≡ pos 0 → ((i *ℤ u) +ℤ (j *ℤ v)) +ℤ (k *ℤ w) ≡ i *ℤ u
only_first i j k u v w e f = rw (e, f) (by i j k u)
  where
    by : (i j k u : ℤ) → ((i *ℤ u) +ℤ (j *ℤ pos 0)) +ℤ (k *ℤ pos 0) ≡ i *ℤ u
    by i j k u = omega (arith, ints)

turned_sum : (s t u : ℤ) → (s +ℤ t) +ℤ u ≡ (t +ℤ s) +ℤ u
turned_sum s t u = omega (arith, ints)

last_sum : (s t u : ℤ) → (s +ℤ t) +ℤ u ≡ (u +ℤ s) +ℤ t
last_sum s t u = omega (arith, ints)

-- ---- near a point on a triangle
module _ (b x y q : Coordinates) (solid : vol6 b x y q ≢ pos 0) (p : Rational) where
  abbrev corners : List Coordinates
  corners = b ∷ x ∷ y ∷ q ∷ []

  mixed_inside : (k : ℕ) (r : Rational) → IsOnTriangle b x y p → is_inside r corners ≡ true → is_inside (mixed (pos k) p r) corners ≡ true
  mixed_inside k r on inside =
      let at = all_four (is_beside x y q b r) (is_beside b y q x r) (is_beside b x q y r) (is_beside b x y q r) inside in
      all (is_beside x y q b s) (is_beside b y q x s) (is_beside b x q y s) (is_beside b x y q s)
      (beside x y q b
      (weighted on.n on.i (vol6 x y q b) (side x y q p) on.positive on.first
      (side_of_mean x y q b x y p on ∙ only_first on.i on.j on.k (vol6 x y q b) (vol6 x y q x) (vol6 x y q y) (vol6_same_ad x y q) (vol6_same_bd x y q))) at.0)
      (beside b y q x
      (weighted on.n on.j (vol6 b y q x) (side b y q p) on.positive on.second
      (side_of_mean b y q b x y p on ∙ turned_sum (on.i *ℤ vol6 b y q b) (on.j *ℤ vol6 b y q x) (on.k *ℤ vol6 b y q y)
      ∙ only_first on.j on.i on.k (vol6 b y q x) (vol6 b y q b) (vol6 b y q y) (vol6_same_ad b y q) (vol6_same_bd b y q))) at.1)
      (beside b x q y
      (weighted on.n on.k (vol6 b x q y) (side b x q p) on.positive on.third
      (side_of_mean b x q b x y p on ∙ last_sum (on.i *ℤ vol6 b x q b) (on.j *ℤ vol6 b x q x) (on.k *ℤ vol6 b x q y)
      ∙ only_first on.k on.i on.j (vol6 b x q y) (vol6 b x q b) (vol6 b x q x) (vol6_same_ad b x q) (vol6_same_bd b x q))) at.2)
      (beside b x y q (inl (on_side b x y p on)) at.3)
    where
      s : Rational
      s = mixed (pos k) p r

      all : (c d e f : Bool) → c ≡ true → d ≡ true → e ≡ true → f ≡ true → (c && d && e && f) ≡ true
      all c d e f g h i j = rw (g, h, i, j) refl

      beside : (c d e f : Coordinates) → IsWeakly (vol6 c d e f) (side c d e p) → is_beside c d e f r ≡ true → is_beside c d e f s ≡ true
      beside c d e f weak at = subst (λ t. are_alike (vol6 c d e f) t ≡ true) (sym (side_mixed (pos k) c d e p r)) (alike_sum k (vol6 c d e f) (side c d e p) (side c d e r) weak at)

  abbrev size_at : Rational → List Coordinates → ℕ
  size_at r (c ∷ d ∷ e ∷ []) = unsigned_abs (side c d e r)
  size_at r _ = 0

  keeps : (k : ℕ) (r s : Rational) (triangle : List Coordinates) → size_at r triangle < k → IsMovedOffPlane (mixed (pos k) p r) s triangle → IsMovedOffPlane p s triangle
  keeps k r s (c ∷ d ∷ e ∷ []) small moved = record {
    off = moved.off;
    kept = λ there.
        let same = subst (λ t. are_alike (side c d e p) t ≡ true) (sym (side_mixed (pos k) c d e p r)) (alike_multiple k (side c d e p) (side c d e r) small there) in
        alike_alike (side c d e p) (side c d e (mixed (pos k) p r)) (side c d e s) same (moved.kept (alike_some (side c d e p) (side c d e (mixed (pos k) p r)) same).1);
  }
  keeps k r s [] small moved = record { off = tt; kept = tt }
  keeps k r s (c ∷ []) small moved = record { off = tt; kept = tt }
  keeps k r s (c ∷ d ∷ []) small moved = record { off = tt; kept = tt }
  keeps k r s (c ∷ d ∷ e ∷ f ∷ l) small moved = record { off = tt; kept = tt }

  pub near : IsPoint p → IsOnTriangle b x y p → (triangles : List (List Coordinates)) → (s : Rational) × (is_inside s corners ≡ true) × AllByRecursion (IsMovedOffPlane p s) triangles
  near is_point on triangles =
      let r = tetrahedron_has_point corners (not_flat (vol6 b x y q) solid) in
      let k = bound (size_at r.0) triangles in
      let g = mixed (pos k.0) p r.0 in
      let inside = mixed_inside k.0 r.0 on r.1 in
      let moved = move_off (λ c. c) g (inside_is_point g corners inside) (corners ∷ []) triangles (not_flat (vol6 b x y q) solid, tt) in (
        moved.0,
        moved.2.0.inside (inside_is_off_faces g corners inside) ∙ inside,
        all_two (λ t. size_at r.0 t < k.0) (IsMovedOffPlane g moved.0) (IsMovedOffPlane p moved.0) (keeps k.0 r.0 moved.0) triangles k.1 moved.3,
      )
    where
      not_flat : (v : ℤ) → v ≢ pos 0 → int_eq v (pos 0) ≡ false
      not_flat v h = grind (arith, ints)

  -- what has the near point over it has the point
  pub closed : (s : Rational) → side b x y p ≡ pos 0 → KeepsSign (side x y q p) (side x y q s) → KeepsSign (side b y q p) (side b y q s) → KeepsSign (side b x q p) (side b x q s)
      → is_inside s corners ≡ true → IsOnTriangle b x y p
  closed s flat kept_b kept_x kept_y inside =
      let at = all_four (is_beside x y q b s) (is_beside b y q x s) (is_beside b x q y s) (is_beside b x y q s) inside in
      on_face b x y q p solid flat
      (not_negative (vol6 x y q b) (side x y q p) (before (vol6 x y q b) (side x y q p) (side x y q s) kept_b at.0))
      (not_negative (vol6 b y q x) (side b y q p) (before (vol6 b y q x) (side b y q p) (side b y q s) kept_x at.1))
      (not_negative (vol6 b x q y) (side b x q p) (before (vol6 b x q y) (side b x q p) (side b x q s) kept_y at.2))
