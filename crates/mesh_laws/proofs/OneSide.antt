-- Two tetrahedra that share a face and lie on one side of it have a point in common.
use Rattle.std.proofs.Common.{◌≡◌, ◌≢◌, ℕ, zero, suc, ◌<◌, ◌⊎◌, ⊎_elim, Bool, true, false, ◌&&◌, List, [], ◌∷◌, refl, sym, ap, subst, ◌∙◌, arith}
use Rattle.std.specs.Prelude.{ℤ, pos, negsuc, ◌+ℤ◌, ◌*ℤ◌, ◌<ℤ◌, ◌≤ℤ◌, unsigned_abs}
use Rattle.std.specs.Ordering.{int_eq}
use Rattle.std.proofs.Math.IntN.{*ℤ_comm}
use Rattle.std.proofs.lemmas.Int.{ints}
use Rattle.ma_geom.specs.Coordinates.{Coordinates}
use Rattle.ma_geom.specs.Lines.{normal}
use Rattle.ma_geom.specs.Rational.{Rational, side}
use Rattle.ma_geom.specs.Volume.{dot, minus, vol6}
use Rattle.ma_geom.proofs.Identities.{dot_self, dot_squared}
use Rattle.ma_geom.proofs.Reified.{Triple, Quadruple, place, places, side', cross', minus', dot', vol6'}
use Rattle.ma_geom.proofs.Ring.{con, ◌⊕◌, ◌⊗◌, ring}
use Rattle.ma_cells.proofs.Passing.{all_weaker}
use Rattle.ma_cover.specs.Inside.{are_alike, is_inside}
use Rattle.ma_cover.proofs.OffFaces.{inside_is_off_faces}
use Rattle.mesh_laws.specs.Points.{IsMovedOffPlane, IsOffPlane}
use Rattle.mesh_laws.specs.Sides.{OneSideHasCommonPoint, TetrahedronHasPoint}
use Rattle.mesh_laws.proofs.Moved.{alike_multiple, bound}
use Rattle.mesh_laws.proofs.MovedOff.{move_off}
use Rattle.mesh_laws.proofs.Weights.{alike_itself, alike_some, by_four, inside_is_point, some_a, some_b, some_c}

-- ---- a point close to the middle of the triangle u v w, off its plane if s isn't zero
abbrev beyond : ℤ → ℤ → Coordinates → Coordinates → Coordinates → Rational
beyond k s u v w = record {
  x = (k *ℤ ((u.x +ℤ v.x) +ℤ w.x)) +ℤ (s *ℤ (normal u v w).x);
  y = (k *ℤ ((u.y +ℤ v.y) +ℤ w.y)) +ℤ (s *ℤ (normal u v w).y);
  z = (k *ℤ ((u.z +ℤ v.z) +ℤ w.z)) +ℤ (s *ℤ (normal u v w).z);
  w = k *ℤ pos 3;
}

abbrev numbers : ℤ → ℤ → Coordinates
numbers k s = record { x = k; y = s; z = pos 0 }

abbrev U : Triple
U = place 0

abbrev V : Triple
V = place 1

abbrev W : Triple
W = place 2

abbrev D : Triple
D = place 3

abbrev normal' : Triple → Triple → Triple → Triple
normal' a b c = cross' (minus' b a) (minus' c a)

-- from u, v, w, d, k and s to the point, as expressions
abbrev beyond' : Quadruple
beyond' =
    let K = (place 4).x in
    let S = (place 4).y in
    let N = normal' U V W in
    record { x = (K ⊗ ((U.x ⊕ V.x) ⊕ W.x)) ⊕ (S ⊗ N.x); y = (K ⊗ ((U.y ⊕ V.y) ⊕ W.y)) ⊕ (S ⊗ N.y); z = (K ⊗ ((U.z ⊕ V.z) ⊕ W.z)) ⊕ (S ⊗ N.z); w = K ⊗ con (pos 3) }

-- how far towards a face
abbrev gap : ℤ → (u v w : Coordinates) → (a b c : Coordinates) → ℤ
gap s u v w a b c = s *ℤ dot (normal a b c) (normal u v w)

module _ (k s : ℤ) (u v w d : Coordinates) where
  at_face : side u v w (beyond k s u v w) ≡ gap s u v w u v w
  unfolding side normal
  at_face = ring (places (u ∷ v ∷ w ∷ d ∷ numbers k s ∷ [])) (side' U V W beyond') ((place 4).y ⊗ dot' (normal' U V W) (normal' U V W)) tt

  at_u : side v w d (beyond k s u v w) ≡ (k *ℤ vol6 v w d u) +ℤ gap s u v w v w d
  unfolding side normal vol6
  at_u = ring (places (u ∷ v ∷ w ∷ d ∷ numbers k s ∷ [])) (side' V W D beyond') (((place 4).x ⊗ vol6' V W D U) ⊕ ((place 4).y ⊗ dot' (normal' V W D) (normal' U V W))) tt

  at_v : side u w d (beyond k s u v w) ≡ (k *ℤ vol6 u w d v) +ℤ gap s u v w u w d
  unfolding side normal vol6
  at_v = ring (places (u ∷ v ∷ w ∷ d ∷ numbers k s ∷ [])) (side' U W D beyond') (((place 4).x ⊗ vol6' U W D V) ⊕ ((place 4).y ⊗ dot' (normal' U W D) (normal' U V W))) tt

  at_w : side u v d (beyond k s u v w) ≡ (k *ℤ vol6 u v d w) +ℤ gap s u v w u v d
  unfolding side normal vol6
  at_w = ring (places (u ∷ v ∷ w ∷ d ∷ numbers k s ∷ [])) (side' U V D beyond') (((place 4).x ⊗ vol6' U V D W) ⊕ ((place 4).y ⊗ dot' (normal' U V D) (normal' U V W))) tt

-- ---- the normal of a face has a length
long_normal : (u v w d : Coordinates) → vol6 u v w d ≢ pos 0 → pos 0 <ℤ dot (normal u v w) (normal u v w)
unfolding vol6 normal
long_normal u v w d solid =
    ⊎_elim (λ none. absurd (solid (square_none (vol6 u v w d) (at_most _ _ (dot_squared (normal u v w) (minus d u)) (times_none (dot (normal u v w) (normal u v w)) (dot (minus d u) (minus d u)) none)))))
    (λ positive. positive)
    (positive_or_none (dot (normal u v w) (normal u v w)) (dot_self (normal u v w)))
  where
    at_most : (p q : ℤ) → p ≤ℤ q → q ≡ pos 0 → p ≤ℤ pos 0
    at_most p q h e = omega (arith, ints)

    square_none : (x : ℤ) → (x *ℤ x) ≤ℤ pos 0 → x ≡ pos 0
    square_none (pos zero) h = refl
    square_none (pos (suc n)) h = absurd (omega (arith, ints))
    square_none (negsuc n) h = absurd (omega (arith, ints))

    times_none : (n m : ℤ) → n ≡ pos 0 → n *ℤ m ≡ pos 0
    times_none n m e = rw e (by m)
      where
        by : (m : ℤ) → pos 0 *ℤ m ≡ pos 0
        by m = omega (arith, ints)

    positive_or_none : (x : ℤ) → pos 0 ≤ℤ x → (x ≡ pos 0) ⊎ (pos 0 <ℤ x)
    positive_or_none x h = grind (arith, ints)

-- ---- numbers of one sign
alike_times : (s m : ℤ) → s ≢ pos 0 → pos 0 <ℤ m → are_alike s (s *ℤ m) ≡ true
alike_times s (pos zero) some h = absurd (omega (arith, ints))
alike_times s (negsuc k) some h = absurd (omega (arith, ints))
alike_times s (pos (suc k)) some h = subst (λ t. are_alike s t ≡ true) (by (pos (suc k) *ℤ s) ∙ *ℤ_comm (pos (suc k)) s) (alike_multiple (suc k) s (pos 0) (omega (arith, ints)) some)
  where
    by : (t : ℤ) → t +ℤ pos 0 ≡ t
    by t = omega (arith, ints)

alike_alike : (x y z : ℤ) → are_alike x y ≡ true → are_alike y z ≡ true → are_alike x z ≡ true
alike_alike x y z h k = grind (arith, ints)

alike_turned : (x y : ℤ) → are_alike x y ≡ true → are_alike y x ≡ true
alike_turned x y h = grind (arith, ints)

-- ---- the common point
beyond_inside : (k : ℕ) (u v w d : Coordinates) (s : ℤ) → are_alike (vol6 u v w d) s ≡ true
    → unsigned_abs (gap s u v w v w d) < k → unsigned_abs (gap s u v w u w d) < k → unsigned_abs (gap s u v w u v d) < k
    → is_inside (beyond (pos k) s u v w) (u ∷ v ∷ w ∷ d ∷ []) ≡ true
beyond_inside k u v w d s alike small_u small_v small_w =
    all (are_alike (vol6 v w d u) (side v w d p)) (are_alike (vol6 u w d v) (side u w d p)) (are_alike (vol6 u v d w) (side u v d p)) (are_alike (vol6 u v w d) (side u v w p))
    (kept (vol6 v w d u) (gap s u v w v w d) (side v w d p) (some_a u v w d solid) small_u (at_u (pos k) s u v w d))
    (kept (vol6 u w d v) (gap s u v w u w d) (side u w d p) (some_b u v w d solid) small_v (at_v (pos k) s u v w d))
    (kept (vol6 u v d w) (gap s u v w u v d) (side u v d p) (some_c u v w d solid) small_w (at_w (pos k) s u v w d))
    (ap (are_alike (vol6 u v w d)) (at_face (pos k) s u v w d) ∙ alike_alike (vol6 u v w d) s (s *ℤ dot (normal u v w) (normal u v w)) alike (alike_times s (dot (normal u v w) (normal u v w)) (alike_some (vol6 u v w d) s alike).1 (long_normal u v w d solid)))
  where
    p : Rational
    p = beyond (pos k) s u v w

    solid : vol6 u v w d ≢ pos 0
    solid = (alike_some (vol6 u v w d) s alike).0

    kept : (x e t : ℤ) → x ≢ pos 0 → unsigned_abs e < k → t ≡ (pos k *ℤ x) +ℤ e → are_alike x t ≡ true
    kept x e t some small is = subst (λ r. are_alike x r ≡ true) (sym is) (alike_multiple k x e small some)

    all : (s t u v : Bool) → s ≡ true → t ≡ true → u ≡ true → v ≡ true → (s && t && u && v) ≡ true
    all s t u v e f g h = rw (e, f, g, h) refl

pub record HaveCommonPoint (s t : List Coordinates) : Type 0 where
  pub p : Rational
  pub first : is_inside p s ≡ true
  pub second : is_inside p t ≡ true

pub one_side : (u v w d e : Coordinates) → are_alike (vol6 u v w d) (vol6 u v w e) ≡ true → HaveCommonPoint (u ∷ v ∷ w ∷ d ∷ []) (u ∷ v ∷ w ∷ e ∷ [])
one_side u v w d e alike =
    let s = vol6 u v w d in
    let k = bound unsigned_abs (gap s u v w v w d ∷ gap s u v w u w d ∷ gap s u v w u v d ∷ gap s u v w v w e ∷ gap s u v w u w e ∷ gap s u v w u v e ∷ []) in
    record {
      p = beyond (pos k.0) s u v w;
      first = beyond_inside k.0 u v w d s (alike_itself s (alike_some s (vol6 u v w e) alike).0) k.1.0 k.1.1.0 k.1.1.1.0;
      second = beyond_inside k.0 u v w e s (alike_turned s (vol6 u v w e) alike) k.1.1.1.1.0 k.1.1.1.1.1.0 k.1.1.1.1.1.1.0;
    }

-- it can be moved off any planes
pub one_side_has_common_point : OneSideHasCommonPoint
one_side_has_common_point u v w d e triangles alike =
    let s = u ∷ v ∷ w ∷ d ∷ [] in
    let t = u ∷ v ∷ w ∷ e ∷ [] in
    let common = one_side u v w d e alike in
    let p = common.p in
    let some = alike_some (vol6 u v w d) (vol6 u v w e) alike in
    let near = move_off (λ c. c) p (inside_is_point p s common.first) (s ∷ t ∷ []) triangles (not_flat (vol6 u v w d) some.0, (not_flat (vol6 u v w e) some.1, tt)) in (
      near.0,
      record {
        first = near.2.0.inside (inside_is_off_faces p s common.first) ∙ common.first;
        second = near.2.1.0.inside (inside_is_off_faces p t common.second) ∙ common.second;
        off = all_weaker (IsMovedOffPlane p near.0) (IsOffPlane near.0) (λ _ moved. moved.off) triangles near.3;
      },
    )
  where
    not_flat : (x : ℤ) → x ≢ pos 0 → int_eq x (pos 0) ≡ false
    not_flat x h = grind (arith, ints)

pub tetrahedron_has_point : TetrahedronHasPoint
tetrahedron_has_point = by_four (λ corners. (p : Rational) × (is_inside p corners ≡ true)) (λ a b c d solid.
    let common = one_side a b c d d (alike_itself (vol6 a b c d) solid) in (common.p, common.first))
