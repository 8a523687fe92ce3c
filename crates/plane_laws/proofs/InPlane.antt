-- Places in the plane through a at right angles to n, and the volumes of their triangles with a place off it.
use Rattle.std.proofs.Common.{◌≡◌, ◌≢◌, zero, suc, ◌⊎◌, inl, inr, ⊎_elim, Bool, true, false, ◌&&◌, [], ◌∷◌, refl, sym, ap, ap₂, subst, ◌∙◌, arith}
use Rattle.std.specs.Prelude.{ℤ, pos, negsuc, not, ◌+ℤ◌, ◌-ℤ◌, ◌*ℤ◌, ◌<ℤ◌, ◌≤ℤ◌}
use Rattle.std.specs.Ordering.{int_eq}
use Rattle.std.proofs.lemmas.Bool.{false≢true}
use Rattle.std.proofs.lemmas.Int.{ints}
use Rattle.ma_geom.specs.Coordinates.{Coordinates}
use Rattle.ma_geom.specs.Lines.{collinear, is_zero, normal}
use Rattle.ma_geom.specs.Rational.{Rational, offset, side}
use Rattle.ma_geom.specs.Signs.{same_sign, sign_of}
use Rattle.ma_geom.specs.Turns.{same_turn}
use Rattle.ma_geom.specs.Volume.{cross, dot, minus, vol6}
use Rattle.ma_geom.specs.declared.signs.Sign.TheVariants.{Zero}
use Rattle.ma_geom.proofs.Identities.{dot_self}
use Rattle.ma_geom.proofs.Integers.{positive-*ℤ, square_not_negative}
use Rattle.ma_geom.proofs.Reified.{place, places, point, point_and_places, cross', dot', minus', offset', vol6'}
use Rattle.ma_geom.proofs.Ring.{con, ◌⊕◌, ◌⊖◌, ◌⊗◌, ring}
use Rattle.ma_cover.specs.Inside.{are_alike}

-- ---- numbers
pub product_zero : (s t : ℤ) → s *ℤ t ≡ pos 0 → (s ≡ pos 0) ⊎ (t ≡ pos 0)
product_zero (pos zero) t e = inl refl
product_zero (pos (suc m)) (pos zero) e = inr refl
product_zero (pos (suc m)) (pos (suc n)) e = absurd (omega (arith, ints))
product_zero (pos (suc m)) (negsuc n) e = absurd (omega (arith, ints))
product_zero (negsuc m) (pos zero) e = inr refl
product_zero (negsuc m) (pos (suc n)) e = absurd (omega (arith, ints))
product_zero (negsuc m) (negsuc n) e = absurd (omega (arith, ints))

product_alike : (s t : ℤ) → pos 0 <ℤ (s *ℤ t) → are_alike s t ≡ true
product_alike (pos zero) t h = absurd (omega (arith, ints))
product_alike (pos (suc m)) (pos zero) h = absurd (omega (arith, ints))
product_alike (pos (suc m)) (pos (suc n)) h = grind (arith, ints)
product_alike (pos (suc m)) (negsuc n) h = absurd (omega (arith, ints))
product_alike (negsuc m) (pos zero) h = absurd (omega (arith, ints))
product_alike (negsuc m) (pos (suc n)) h = absurd (omega (arith, ints))
product_alike (negsuc m) (negsuc n) h = grind (arith, ints)

-- numbers with one sign have no negative product, and a positive one unless they are zero
same_product : (s t : ℤ) → same_sign (sign_of s) (sign_of t) ≡ true → ((s ≡ pos 0) × (s *ℤ t ≡ pos 0)) ⊎ (pos 0 <ℤ (s *ℤ t))
same_product (pos zero) (pos zero) h = inl (refl, refl)
same_product (pos zero) (pos (suc n)) h = absurd (false≢true h)
same_product (pos zero) (negsuc n) h = absurd (false≢true h)
same_product (pos (suc m)) (pos zero) h = absurd (false≢true h)
same_product (pos (suc m)) (pos (suc n)) h = inr (omega (arith, ints))
same_product (pos (suc m)) (negsuc n) h = absurd (false≢true h)
same_product (negsuc m) (pos zero) h = absurd (false≢true h)
same_product (negsuc m) (pos (suc n)) h = absurd (false≢true h)
same_product (negsuc m) (negsuc n) h = inr (omega (arith, ints))

-- vectors whose components have one sign, not all zero, lie within a right angle of each other
turns_meet : (i j k x y z : ℤ)
    → (same_sign (sign_of i) (sign_of x) && same_sign (sign_of j) (sign_of y) && same_sign (sign_of k) (sign_of z)
    && not (same_sign (sign_of i) Zero && same_sign (sign_of j) Zero && same_sign (sign_of k) Zero)) ≡ true
    → pos 0 <ℤ (((i *ℤ x) +ℤ (j *ℤ y)) +ℤ (k *ℤ z))
turns_meet i j k x y z h =
    let parts = four _ _ _ _ h in
    by (same_product i x parts.0) (same_product j y parts.1) (same_product k z parts.2) parts.3
  where
    four : (s t u v : Bool) → (s && t && u && v) ≡ true → (s ≡ true) × (t ≡ true) × (u ≡ true) × (v ≡ true)
    four true true true true h = (refl, refl, refl, refl)
    four true true true false h = absurd (false≢true h)
    four true true false v h = absurd (false≢true h)
    four true false u v h = absurd (false≢true h)
    four false t u v h = absurd (false≢true h)

    sum : (s t u : ℤ) → (s ≡ pos 0) ⊎ (pos 0 <ℤ s) → (t ≡ pos 0) ⊎ (pos 0 <ℤ t) → (u ≡ pos 0) ⊎ (pos 0 <ℤ u) → (pos 0 <ℤ s) ⊎ ((pos 0 <ℤ t) ⊎ (pos 0 <ℤ u)) → pos 0 <ℤ ((s +ℤ t) +ℤ u)
    sum s t u e f g h = grind (arith, ints)

    weak : {i s : ℤ} → ((i ≡ pos 0) × (s ≡ pos 0)) ⊎ (pos 0 <ℤ s) → (s ≡ pos 0) ⊎ (pos 0 <ℤ s)
    weak (inl h) = inl h.1
    weak (inr h) = inr h

    by : ((i ≡ pos 0) × (i *ℤ x ≡ pos 0)) ⊎ (pos 0 <ℤ (i *ℤ x)) → ((j ≡ pos 0) × (j *ℤ y ≡ pos 0)) ⊎ (pos 0 <ℤ (j *ℤ y)) → ((k ≡ pos 0) × (k *ℤ z ≡ pos 0)) ⊎ (pos 0 <ℤ (k *ℤ z))
        → not (same_sign (sign_of i) Zero && same_sign (sign_of j) Zero && same_sign (sign_of k) Zero) ≡ true → pos 0 <ℤ (((i *ℤ x) +ℤ (j *ℤ y)) +ℤ (k *ℤ z))
    by (inr e) f g _ = sum (i *ℤ x) (j *ℤ y) (k *ℤ z) (inr e) (weak f) (weak g) (inl e)
    by (inl e) (inr f) g _ = sum (i *ℤ x) (j *ℤ y) (k *ℤ z) (inl e.1) (inr f) (weak g) (inr (inl f))
    by (inl e) (inl f) (inr g) _ = sum (i *ℤ x) (j *ℤ y) (k *ℤ z) (inl e.1) (inl f.1) (inr g) (inr (inr g))
    by (inl e) (inl f) (inl g) h = absurd (false≢true (sym (ap₂ (λ s t. not (same_sign (sign_of s) Zero && same_sign (sign_of t) Zero && same_sign (sign_of k) Zero)) e.0 f.0 ∙ ap (λ s. not (same_sign (sign_of s) Zero)) g.0) ∙ h))

-- a vector without a length is zero
zero_length : (u : Coordinates) → dot u u ≡ pos 0 → is_zero u ≡ true
zero_length u e =
    let parts = three (u.x *ℤ u.x) (u.y *ℤ u.y) (u.z *ℤ u.z) (square_not_negative u.x) (square_not_negative u.y) (square_not_negative u.z) e in
    all u.x u.y u.z (square u.x parts.0) (square u.y parts.1) (square u.z parts.2)
  where
    three : (x y z : ℤ) → pos 0 ≤ℤ x → pos 0 ≤ℤ y → pos 0 ≤ℤ z → (x +ℤ y) +ℤ z ≡ pos 0 → (x ≡ pos 0) × (y ≡ pos 0) × (z ≡ pos 0)
    three x y z e f g h = (omega (arith, ints), omega (arith, ints), omega (arith, ints))

    square : (s : ℤ) → s *ℤ s ≡ pos 0 → s ≡ pos 0
    square s e = ⊎_elim (λ h. h) (λ h. h) (product_zero s s e)

    all : (x y z : ℤ) → x ≡ pos 0 → y ≡ pos 0 → z ≡ pos 0 → (int_eq x (pos 0) && int_eq y (pos 0) && int_eq z (pos 0)) ≡ true
    all x y z e f g = rw (e, f, g) refl

-- ---- products of vectors
binet : (n u t : Coordinates) → dot n n *ℤ dot u t ≡ (dot n u *ℤ dot n t) +ℤ dot (cross n u) (cross n t)
binet n u t =
    let N = place 0 in
    let U = place 1 in
    let T = place 2 in
    ring (places (n ∷ u ∷ t ∷ [])) (dot' N N ⊗ dot' U T) ((dot' N U ⊗ dot' N T) ⊕ dot' (cross' N U) (cross' N T)) tt

across_normal : (n a b c d t : Coordinates) → dot (cross n (normal b c d)) t
    ≡ ((dot n (minus d a) -ℤ dot n (minus b a)) *ℤ dot (minus c b) t) -ℤ ((dot n (minus c a) -ℤ dot n (minus b a)) *ℤ dot (minus d b) t)
unfolding normal
across_normal n a b c d t =
    let N = place 0 in
    let A = place 1 in
    let B = place 2 in
    let C = place 3 in
    let D = place 4 in
    let T = place 5 in
    ring (places (n ∷ a ∷ b ∷ c ∷ d ∷ t ∷ [])) (dot' (cross' N (cross' (minus' C B) (minus' D B))) T)
    (((dot' N (minus' D A) ⊖ dot' N (minus' B A)) ⊗ dot' (minus' C B) T) ⊖ ((dot' N (minus' C A) ⊖ dot' N (minus' B A)) ⊗ dot' (minus' D B) T)) tt

from_b : (n a b c : Coordinates) → dot n (minus c b) ≡ dot n (minus c a) -ℤ dot n (minus b a)
from_b n a b c = ring (places (n ∷ a ∷ b ∷ c ∷ [])) (dot' (place 0) (minus' (place 3) (place 2))) (dot' (place 0) (minus' (place 3) (place 1)) ⊖ dot' (place 0) (minus' (place 2) (place 1))) tt

point_from_b : (n a b : Coordinates) (p : Rational) → dot n (offset p b) ≡ dot n (offset p a) -ℤ (p.w *ℤ dot n (minus b a))
point_from_b n a b p =
    ring (point_and_places p (n ∷ a ∷ b ∷ [])) (dot' (place 0) (offset' point (place 2))) (dot' (place 0) (offset' point (place 1)) ⊖ (point.w ⊗ dot' (place 0) (minus' (place 2) (place 1)))) tt

-- the place a + n
abbrev pub above : Coordinates → Coordinates → Coordinates
above n a = record { x = a.x +ℤ n.x; y = a.y +ℤ n.y; z = a.z +ℤ n.z }

height : (n a b c d : Coordinates) → vol6 b c d (above n a) ≡ dot n (normal b c d) +ℤ vol6 b c d a
unfolding vol6 normal
height n a b c d =
    let N = place 0 in
    let A = place 1 in
    let B = place 2 in
    let C = place 3 in
    let D = place 4 in
    ring (places (n ∷ a ∷ b ∷ c ∷ d ∷ [])) (vol6' B C D (record { x = A.x ⊕ N.x; y = A.y ⊕ N.y; z = A.z ⊕ N.z })) (dot' N (cross' (minus' C B) (minus' D B)) ⊕ vol6' B C D A) tt

-- ---- in the plane
module _ (n a : Coordinates) (plane : is_zero n ≡ false) where
  abbrev pub Lies : Coordinates → Type 0
  Lies b = dot n (minus b a) ≡ pos 0

  abbrev pub top : Coordinates
  top = above n a

  long : dot n n ≢ pos 0
  long e = false≢true (sym plane ∙ zero_length n e)

  pub a_lies : Lies a
  a_lies = ring (places (n ∷ a ∷ [])) (dot' (place 0) (minus' (place 1) (place 1))) (con (pos 0)) tt

  module _ (b c d : Coordinates) (in_b : Lies b) (in_c : Lies c) (in_d : Lies d) where
    -- the normal of a triangle in the plane is a multiple of n
    parallel : (t : Coordinates) → dot n n *ℤ dot (normal b c d) t ≡ dot n (normal b c d) *ℤ dot n t
    parallel t = binet n (normal b c d) t ∙ by _ _ _ _ _ _ _ (across_normal n a b c d (cross n t)) in_d in_b in_c
      where
        by : (s x d b c u v : ℤ) → x ≡ ((d -ℤ b) *ℤ u) -ℤ ((c -ℤ b) *ℤ v) → d ≡ pos 0 → b ≡ pos 0 → c ≡ pos 0 → s +ℤ x ≡ s
        by s x d b c u v e f g h = ap (λ t. s +ℤ t) (e ∙ rw (f, g, h) (none u v)) ∙ last s
          where
            none : (u v : ℤ) → ((pos 0 -ℤ pos 0) *ℤ u) -ℤ ((pos 0 -ℤ pos 0) *ℤ v) ≡ pos 0
            none u v = omega (arith, ints)

            last : (s : ℤ) → s +ℤ pos 0 ≡ s
            last s = omega (arith, ints)

    crossed : (t : Coordinates) → dot n t ≡ pos 0 → dot (normal b c d) t ≡ pos 0
    crossed t e = ⊎_elim (λ h. absurd (long h)) (λ h. h) (product_zero (dot n n) (dot (normal b c d) t) (parallel t ∙ ap (λ s. dot n (normal b c d) *ℤ s) e ∙ none (dot n (normal b c d))))
      where
        none : (s : ℤ) → s *ℤ pos 0 ≡ pos 0
        none s = omega (arith, ints)

    pub flat_in_plane : (e : Coordinates) → Lies e → vol6 b c d e ≡ pos 0
    unfolding vol6 normal
    flat_in_plane e in_e = crossed (minus e b) (from_b n a b e ∙ ap₂ (λ s t. s -ℤ t) in_e in_b)

    pub side_in_plane : (p : Rational) → dot n (offset p a) ≡ pos 0 → side b c d p ≡ pos 0
    unfolding side normal
    side_in_plane p in_p = crossed (offset p b) (point_from_b n a b p ∙ ap₂ (λ s t. s -ℤ (p.w *ℤ t)) in_p in_b ∙ by p.w)
      where
        by : (w : ℤ) → pos 0 -ℤ (w *ℤ pos 0) ≡ pos 0
        by w = omega (arith, ints)

    -- the volume with the place above
    pub volume_above : vol6 b c d top ≡ dot n (normal b c d)
    volume_above = height n a b c d ∙ ap (λ t. dot n (normal b c d) +ℤ t) (flat_in_plane a a_lies) ∙ by (dot n (normal b c d))
      where
        by : (s : ℤ) → s +ℤ pos 0 ≡ s
        by s = omega (arith, ints)

    pub solid_above : collinear b c d ≡ false → vol6 b c d top ≢ pos 0
    solid_above bent e =
        ⊎_elim long (λ h. false≢true (sym bent ∙ zero_length (normal b c d) h))
        (product_zero (dot n n) (dot (normal b c d) (normal b c d)) (parallel (normal b c d) ∙ ap (λ s. s *ℤ s) (sym volume_above ∙ e)))

  pub turn_above : (b c d e f g : Coordinates) → Lies b → Lies c → Lies d → Lies e → Lies f → Lies g → same_turn (b ∷ c ∷ d ∷ []) (e ∷ f ∷ g ∷ []) ≡ true
      → are_alike (vol6 b c d top) (vol6 e f g top) ≡ true
  turn_above b c d e f g in_b in_c in_d in_e in_f in_g h =
      let meet = turns_meet _ _ _ _ _ _ h in
      let product = parallel b c d in_b in_c in_d (normal e f g) in
      ap₂ are_alike (volume_above b c d in_b in_c in_d) (volume_above e f g in_e in_f in_g)
      ∙ product_alike (dot n (normal b c d)) (dot n (normal e f g)) (subst (λ s. pos 0 <ℤ s) product (positive-*ℤ (dot n n) (dot (normal b c d) (normal e f g)) (positive (dot n n) (dot_self n) long) meet))
    where
      positive : (s : ℤ) → pos 0 ≤ℤ s → s ≢ pos 0 → pos 0 <ℤ s
      positive (pos zero) h g = absurd (g refl)
      positive (pos (suc k)) h g = omega (arith, ints)
      positive (negsuc k) h g = absurd (omega (arith, ints))
