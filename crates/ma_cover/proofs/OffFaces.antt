-- A point on a triangle is in its plane, so what is within a tetrahedron is on none of its faces.
use Rattle.std.proofs.Common.{◌≡◌, zero, suc, Bool, true, false, ◌&&◌, List, [], ◌∷◌, refl, sym, ap, ◌∙◌, arith}
use Rattle.std.specs.Prelude.{ℤ, pos, negsuc, ◌+ℤ◌, ◌*ℤ◌, ◌<ℤ◌}
use Rattle.std.proofs.lemmas.Bool.{false≢true}
use Rattle.std.proofs.lemmas.Int.{ints}
use Rattle.ma_geom.specs.Coordinates.{Coordinates}
use Rattle.ma_geom.specs.Rational.{Rational, side}
use Rattle.ma_geom.specs.Volume.{vol6}
use Rattle.ma_geom.proofs.Reified.{Quadruple, place, point, places, point_and_places, side', vol6'}
use Rattle.ma_geom.proofs.Ring.{Expr, con, ◌⊕◌, ◌⊗◌, ring}
use Rattle.ma_cover.specs.Inside.{are_alike, is_beside, is_inside}
use Rattle.ma_cover.specs.OnFaces.{IsOffFacesOf, IsOffTriangle, IsOnTriangle}

-- the same point, by n times its coordinates
abbrev times : ℤ → Rational → Rational
times n p = record { x = n *ℤ p.x; y = n *ℤ p.y; z = n *ℤ p.z; w = n *ℤ p.w }

abbrev times' : Expr → Quadruple → Quadruple
times' n p = record { x = n ⊗ p.x; y = n ⊗ p.y; z = n ⊗ p.z; w = n ⊗ p.w }

-- the sum of three places, each as often as a weight says
abbrev sum_of : (i j k : ℤ) → Coordinates → Coordinates → Coordinates → Rational
sum_of i j k a b c = record {
  x = ((i *ℤ a.x) +ℤ (j *ℤ b.x)) +ℤ (k *ℤ c.x);
  y = ((i *ℤ a.y) +ℤ (j *ℤ b.y)) +ℤ (k *ℤ c.y);
  z = ((i *ℤ a.z) +ℤ (j *ℤ b.z)) +ℤ (k *ℤ c.z);
  w = (i +ℤ j) +ℤ k;
}

-- a further place, for three numbers
abbrev numbers : ℤ → ℤ → ℤ → Coordinates
numbers i j k = record { x = i; y = j; z = k }

side_times : (n : ℤ) (a b c : Coordinates) (p : Rational) → side a b c (times n p) ≡ n *ℤ side a b c p
unfolding side
side_times n a b c p =
    ring (point_and_places p (a ∷ b ∷ c ∷ numbers n n n ∷ [])) (side' (place 0) (place 1) (place 2) (times' (place 3).x point)) ((place 3).x ⊗ side' (place 0) (place 1) (place 2) point) tt

side_of_sum : (i j k : ℤ) (a b c : Coordinates) → side a b c (sum_of i j k a b c) ≡ pos 0
unfolding side
side_of_sum i j k a b c =
    let w = place 3 in
    let A = place 0 in
    let B = place 1 in
    let C = place 2 in
    ring (places (a ∷ b ∷ c ∷ numbers i j k ∷ [])) (side' A B C (record {
      x = ((w.x ⊗ A.x) ⊕ (w.y ⊗ B.x)) ⊕ (w.z ⊗ C.x);
      y = ((w.x ⊗ A.y) ⊕ (w.y ⊗ B.y)) ⊕ (w.z ⊗ C.y);
      z = ((w.x ⊗ A.z) ⊕ (w.y ⊗ B.z)) ⊕ (w.z ⊗ C.z);
      w = (w.x ⊕ w.y) ⊕ w.z;
    })) (con (pos 0)) tt

-- at any plane, by those of the places
side_at_sum : (i j k : ℤ) (u v w a b c : Coordinates) → side u v w (sum_of i j k a b c) ≡ ((i *ℤ vol6 u v w a) +ℤ (j *ℤ vol6 u v w b)) +ℤ (k *ℤ vol6 u v w c)
unfolding side vol6
side_at_sum i j k u v w a b c =
    let U = place 0 in
    let V = place 1 in
    let W = place 2 in
    let A = place 3 in
    let B = place 4 in
    let C = place 5 in
    let n = place 6 in
    ring (places (u ∷ v ∷ w ∷ a ∷ b ∷ c ∷ numbers i j k ∷ [])) (side' U V W (record {
      x = ((n.x ⊗ A.x) ⊕ (n.y ⊗ B.x)) ⊕ (n.z ⊗ C.x);
      y = ((n.x ⊗ A.y) ⊕ (n.y ⊗ B.y)) ⊕ (n.z ⊗ C.y);
      z = ((n.x ⊗ A.z) ⊕ (n.y ⊗ B.z)) ⊕ (n.z ⊗ C.z);
      w = (n.x ⊕ n.y) ⊕ n.z;
    })) (((n.x ⊗ vol6' U V W A) ⊕ (n.y ⊗ vol6' U V W B)) ⊕ (n.z ⊗ vol6' U V W C)) tt

zero_factor : (n s : ℤ) → pos 0 <ℤ n → n *ℤ s ≡ pos 0 → s ≡ pos 0
zero_factor (pos zero) s h e = absurd (omega (arith, ints))
zero_factor (negsuc m) s h e = absurd (omega (arith, ints))
zero_factor (pos (suc m)) (pos zero) h e = refl
zero_factor (pos (suc m)) (pos (suc n)) h e = absurd (omega (arith, ints))
zero_factor (pos (suc m)) (negsuc n) h e = absurd (omega (arith, ints))

-- the side of a point on a triangle, at any plane
pub side_of_mean : (u v w a b c : Coordinates) (p : Rational) (on : IsOnTriangle a b c p)
    → on.n *ℤ side u v w p ≡ ((on.i *ℤ vol6 u v w a) +ℤ (on.j *ℤ vol6 u v w b)) +ℤ (on.k *ℤ vol6 u v w c)
side_of_mean u v w a b c p on =
    let is : times on.n p ≡ sum_of on.i on.j on.k a b c = λ t. record { x = on.x t; y = on.y t; z = on.z t; w = on.w t } in
    sym (side_times on.n u v w p) ∙ ap (side u v w) is ∙ side_at_sum on.i on.j on.k u v w a b c

pub on_side : (a b c : Coordinates) (p : Rational) → IsOnTriangle a b c p → side a b c p ≡ pos 0
on_side a b c p on =
    let is : times on.n p ≡ sum_of on.i on.j on.k a b c = λ t. record { x = on.x t; y = on.y t; z = on.z t; w = on.w t } in
    zero_factor on.n (side a b c p) on.positive (sym (side_times on.n a b c p) ∙ ap (side a b c) is ∙ side_of_sum on.i on.j on.k a b c)

not_beside : (v s : ℤ) → s ≡ pos 0 → are_alike v s ≡ false
not_beside v s e = grind (arith, ints)

beside_off : (a b c q : Coordinates) (p : Rational) → is_beside a b c q p ≡ true → IsOffTriangle a b c p
beside_off a b c q p h on = false≢true (sym (not_beside (vol6 a b c q) (side a b c p) (on_side a b c p on)) ∙ h)

pub all_four : (s t u v : Bool) → (s && t && u && v) ≡ true → (s ≡ true) × (t ≡ true) × (u ≡ true) × (v ≡ true)
all_four true true true true e = (refl, refl, refl, refl)
all_four true true true false e = absurd (false≢true e)
all_four true true false v e = absurd (false≢true e)
all_four true false u v e = absurd (false≢true e)
all_four false t u v e = absurd (false≢true e)

pub inside_is_off_faces : (p : Rational) (corners : List Coordinates) → is_inside p corners ≡ true → IsOffFacesOf p corners
inside_is_off_faces p [] h = absurd (false≢true h)
inside_is_off_faces p (a ∷ []) h = absurd (false≢true h)
inside_is_off_faces p (a ∷ b ∷ []) h = absurd (false≢true h)
inside_is_off_faces p (a ∷ b ∷ c ∷ []) h = absurd (false≢true h)
inside_is_off_faces p (a ∷ b ∷ c ∷ d ∷ []) h =
    let all = all_four (is_beside b c d a p) (is_beside a c d b p) (is_beside a b d c p) (is_beside a b c d p) h in
    (beside_off a b c d p all.3, (beside_off a b d c p all.2, (beside_off a c d b p all.1, (beside_off b c d a p all.0, tt))))
inside_is_off_faces p (a ∷ b ∷ c ∷ d ∷ e ∷ l) h = absurd (false≢true h)
