-- Triangles in whichever planes: each plane keeps its points.
use Rattle.std.proofs.Common.{◌≡◌, ◌≢◌, ⊎_elim, Bool, true, false, not, ◌&&◌, ◌||◌, List, [], ◌∷◌, refl, sym, ap₂, subst, ◌∙◌, arith}
use Rattle.std.specs.Prelude.{◌↔◌, ℤ, pos, ◌+ℤ◌, ◌*ℤ◌, ◌<ℤ◌}
use Rattle.std.specs.Ordering.{eq_by_cmp, int_eq}
use Rattle.std.proofs.lemmas.Bool.{and_parts}
use Rattle.std.proofs.lemmas.Int.{ints}
use Rattle.ma_geom.specs.Coordinates.{Coordinates, place_cmp}
use Rattle.ma_geom.specs.Lines.{collinear, coplanar, normal}
use Rattle.ma_geom.specs.Rational.{IsPoint, Rational, side}
use Rattle.ma_geom.specs.Turns.{same_turn}
use Rattle.ma_geom.specs.Volume.{dot, minus, vol6}
use Rattle.ma_geom.proofs.Identities.{vol6_same_ad, vol6_same_bd, vol6_same_cd}
use Rattle.ma_cover.specs.OnFaces.{IsOnTriangle}
use Rattle.ma_cover.proofs.OffFaces.{on_side, side_of_mean}
use Rattle.plane_laws.specs.Planes.{CanMoveInPlane, CanMoveInPlanes, Edge, IsInnerOrOnLine, IsOnFan, PlanesKeepPoints, in_plane, link_without}
use Rattle.plane_laws.proofs.Fans.{plane_keeps_points}
use Rattle.plane_laws.proofs.InPlane.{flat_in_plane, product_zero}
use Rattle.plane_laws.proofs.Items.{IsIn, all_in, any, each, filter-alike, from_filter, in_filter, witness}

abbrev eq : Coordinates → Coordinates → Bool
eq = eq_by_cmp place_cmp

is_zero : (s : ℤ) → int_eq s (pos 0) ≡ true → s ≡ pos 0
is_zero s h = grind (arith, ints)

zero_is : (s : ℤ) → s ≡ pos 0 → int_eq s (pos 0) ≡ true
zero_is s h = rw h refl

-- ---- one plane or another
lies : (a x y b : Coordinates) → coplanar a x y b ≡ true → dot (normal a x y) (minus b a) ≡ pos 0
unfolding vol6 normal
lies a x y b h = is_zero (vol6 a x y b) h

-- what lies in the plane of a, x and y lies in that of a and two places of it
same_plane : (a x y u v b : Coordinates) → collinear a x y ≡ false → coplanar a x y u ≡ true → coplanar a x y v ≡ true → coplanar a x y b ≡ true → coplanar a u v b ≡ true
same_plane a x y u v b bent in_u in_v in_b =
    zero_is (vol6 a u v b)
    (flat_in_plane (normal a x y) a bent a u v (lies a x y a (zero_is (vol6 a x y a) (vol6_same_ad a x y))) (lies a x y u in_u) (lies a x y v in_v) b (lies a x y b in_b))

one_plane : (a x y u v b : Coordinates) → collinear a x y ≡ false → collinear a u v ≡ false → coplanar a x y u ≡ true → coplanar a x y v ≡ true → coplanar a x y b ≡ coplanar a u v b
one_plane a x y u v b bent bent_too in_u in_v =
    either _ _ (same_plane a x y u v b bent in_u in_v)
    (same_plane a u v x y b bent_too (same_plane a x y u v x bent in_u in_v (zero_is (vol6 a x y x) (vol6_same_bd a x y))) (same_plane a x y u v y bent in_u in_v (zero_is (vol6 a x y y) (vol6_same_cd a x y))))
  where
    either : (s t : Bool) → (s ≡ true → t ≡ true) → (t ≡ true → s ≡ true) → s ≡ t
    either true t f g = sym (f refl)
    either false true f g = g refl
    either false false f g = refl

module _ (a v : Coordinates) (link : List Edge) (m : CanMoveInPlanes a v link) where
  abbrev near : Edge → List Edge
  near e = in_plane a e link

  abbrev is_near : Edge → Edge → Bool
  is_near e f = coplanar a e.x e.y f.x && coplanar a e.x e.y f.y

  bent : (e : Edge) → IsIn e link → collinear a e.x e.y ≡ false
  bent e i = each (λ e. collinear a e.x e.y ≡ false) e link m.bent i

  near_parts : (e f : Edge) → IsIn f (near e) → IsIn f link × (coplanar a e.x e.y f.x ≡ true) × (coplanar a e.x e.y f.y ≡ true)
  near_parts e f i = let parts = from_filter (is_near e) f link i in let both = and_parts (coplanar a e.x e.y f.x) (coplanar a e.x e.y f.y) parts.1 in (parts.0, both.0, both.1)

  itself : (e : Edge) → IsIn e link → IsIn e (near e)
  itself e i = in_filter (is_near e) e link i (ap₂ (λ s t. s && t) (zero_is (vol6 a e.x e.y e.x) (vol6_same_bd a e.x e.y)) (zero_is (vol6 a e.x e.y e.y) (vol6_same_cd a e.x e.y)))

  same_near : (e f : Edge) → IsIn e link → IsIn f (near e) → near f ≡ near e
  same_near e f i j =
      let parts = near_parts e f j in
      let alike = λ (b : Coordinates). sym (one_plane a e.x e.y f.x f.y b (bent e i) (bent f parts.0) parts.1 parts.2) in
      filter-alike (is_near f) (is_near e) (λ g. ap₂ (λ s t. s && t) (alike g.x) (alike g.y)) link

  can_move : (e : Edge) → IsIn e link → CanMoveInPlane (normal a e.x e.y) a v (near e)
  can_move e i = record {
    plane = bent e i;
    target = lies a e.x e.y v (each (λ e. coplanar a e.x e.y v ≡ true) e link m.planes i);
    corners = all_in (λ f. (dot (normal a e.x e.y) (minus f.x a) ≡ pos 0) × (dot (normal a e.x e.y) (minus f.y a) ≡ pos 0)) (near e) (λ f j. let parts = near_parts e f j in (lies a e.x e.y f.x parts.1, lies a e.x e.y f.y parts.2));
    bent = all_in (λ f. collinear a f.x f.y ≡ false) (near e) (λ f j. bent f (near_parts e f j).0);
    edges = all_in (λ f. IsInnerOrOnLine a v (near e) f.x × IsInnerOrOnLine a v (near e) f.y) (near e)
        (λ f j. subst (λ l. IsInnerOrOnLine a v l f.x × IsInnerOrOnLine a v l f.y) (same_near e f i j) (each (λ f. IsInnerOrOnLine a v (in_plane a f link) f.x × IsInnerOrOnLine a v (in_plane a f link) f.y) f link m.edges (near_parts e f j).0));
    turns = all_in (λ f. f.x ≢ v → f.y ≢ v → same_turn (a ∷ f.x ∷ f.y ∷ []) (v ∷ f.x ∷ f.y ∷ []) ≡ true) (near e)
        (λ f j. each (λ f. f.x ≢ v → f.y ≢ v → same_turn (a ∷ f.x ∷ f.y ∷ []) (v ∷ f.x ∷ f.y ∷ []) ≡ true) f link m.turns (near_parts e f j).0);
  }

  module _ (p : Rational) (is_point : IsPoint p) where
    fan : (e : Edge) → IsIn e link → side a e.x e.y p ≡ pos 0 → IsOnFan a (near e) p ↔ IsOnFan v (link_without v (near e)) p
    unfolding side normal
    fan e i flat = plane_keeps_points (normal a e.x e.y) a v (near e) (can_move e i) p is_point flat

    -- a point of a triangle from v is in the plane too
    still_flat : (e : Edge) → IsIn e link → IsOnTriangle v e.x e.y p → side a e.x e.y p ≡ pos 0
    still_flat e i on =
        ⊎_elim (λ z. absurd (some on.n on.positive z)) (λ z. z)
        (product_zero on.n (side a e.x e.y p)
        (side_of_mean a e.x e.y v e.x e.y p on ∙ nothing on.i on.j on.k _ _ _ (is_zero (vol6 a e.x e.y v) (each (λ e. coplanar a e.x e.y v ≡ true) e link m.planes i)) (vol6_same_bd a e.x e.y) (vol6_same_cd a e.x e.y)))
      where
        some : (n : ℤ) → pos 0 <ℤ n → n ≡ pos 0 → ⊥
        some n h e = omega (arith, ints)

        nothing : (i j k u v w : ℤ) → u ≡ pos 0 → v ≡ pos 0 → w ≡ pos 0 → ((i *ℤ u) +ℤ (j *ℤ v)) +ℤ (k *ℤ w) ≡ pos 0
        nothing i j k u v w e f g = rw (e, f, g) (none i j k)
          where
            none : (i j k : ℤ) → ((i *ℤ pos 0) +ℤ (j *ℤ pos 0)) +ℤ (k *ℤ pos 0) ≡ pos 0
            none i j k = omega (arith, ints)

    abbrev lacks_v : Edge → Bool
    lacks_v e = not (eq v e.x || eq v e.y)

    alike : IsOnFan a link p ↔ IsOnFan v (link_without v link) p
    alike = (
      (λ on.
          let w = witness (λ e. IsOnTriangle a e.x e.y p) link on in
          let u = witness (λ e. IsOnTriangle v e.x e.y p) (link_without v (near w.0)) ((fan w.0 w.1 (on_side a w.0.x w.0.y p w.2)).0 (any (λ e. IsOnTriangle a e.x e.y p) w.0 (near w.0) (itself w.0 w.1) w.2)) in
          let from = from_filter lacks_v u.0 (near w.0) u.1 in
          any (λ e. IsOnTriangle v e.x e.y p) u.0 (link_without v link) (in_filter lacks_v u.0 link (near_parts w.0 u.0 from.0).0 from.1) u.2),
      (λ on.
          let w = witness (λ e. IsOnTriangle v e.x e.y p) (link_without v link) on in
          let from = from_filter lacks_v w.0 link w.1 in
          let u = witness (λ e. IsOnTriangle a e.x e.y p) (near w.0)
          ((fan w.0 from.0 (still_flat w.0 from.0 w.2)).1 (any (λ e. IsOnTriangle v e.x e.y p) w.0 (link_without v (near w.0)) (in_filter lacks_v w.0 (near w.0) (itself w.0 from.0) from.1) w.2)) in
          any (λ e. IsOnTriangle a e.x e.y p) u.0 link (near_parts w.0 u.0 u.1).0 u.2),
    )

pub planes_keep_points : PlanesKeepPoints
planes_keep_points a v link m p is_point = alike a v link m p is_point
