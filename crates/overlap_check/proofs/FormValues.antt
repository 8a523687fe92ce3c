-- What the values of a linear form at the corners of a tetrahedron say of the form and of its value at a point.
use Rattle.std.proofs.Common.{◌≡◌, ◌≢◌, zero, suc, true, ◌&&◌, [], ◌∷◌, refl, ◌∙◌, arith}
use Rattle.std.specs.Prelude.{ℤ, pos, negsuc, ◌+ℤ◌, ◌-ℤ◌, ◌*ℤ◌}
use Rattle.std.specs.Ordering.{int_eq}
use Rattle.std.proofs.lemmas.Int.{ints}
use Rattle.ma_geom.specs.Coordinates.{Coordinates}
use Rattle.ma_geom.specs.Lines.{is_zero}
use Rattle.ma_geom.specs.Rational.{Rational, side}
use Rattle.ma_geom.specs.Volume.{cross, dot, minus, vol6}
use Rattle.ma_geom.proofs.Reified.{Triple, Quadruple, cross', dot', minus', place, places, point, point_and_places, side', vol6'}
use Rattle.ma_geom.proofs.Ring.{Expr, ◌⊕◌, ◌⊖◌, ◌⊗◌, ring}

-- w times the form's value at a point
abbrev pub value_at : Coordinates → Rational → ℤ
value_at n p = dot n (record { x = p.x; y = p.y; z = p.z })

abbrev value_at' : Triple → Quadruple → Expr
value_at' n p = dot' n (record { x = p.x; y = p.y; z = p.z })

-- a form's value at a point is the mean of those at the corners, each weighed by the side of the point at the face across from it
pub value_mean : (n a b c d : Coordinates) (p : Rational)
    → (((side a b c p *ℤ dot n d) -ℤ (side a b d p *ℤ dot n c)) +ℤ (side a c d p *ℤ dot n b)) -ℤ (side b c d p *ℤ dot n a) ≡ vol6 a b c d *ℤ value_at n p
unfolding vol6 side
value_mean n a b c d p =
    let A = place 0 in
    let B = place 1 in
    let C = place 2 in
    let D = place 3 in
    let N = place 4 in
    ring (point_and_places p (a ∷ b ∷ c ∷ d ∷ n ∷ []))
    ((((side' A B C point ⊗ dot' N D) ⊖ (side' A B D point ⊗ dot' N C)) ⊕ (side' A C D point ⊗ dot' N B)) ⊖ (side' B C D point ⊗ dot' N A))
    (vol6' A B C D ⊗ value_at' N point) tt

-- ---- a form that is one number over all four corners is zero
rise_x : (n a b c d : Coordinates)
    → vol6 a b c d *ℤ n.x ≡ (((dot n b -ℤ dot n a) *ℤ (cross (minus c a) (minus d a)).x) +ℤ ((dot n c -ℤ dot n a) *ℤ (cross (minus d a) (minus b a)).x)) +ℤ ((dot n d -ℤ dot n a) *ℤ (cross (minus b a) (minus c a)).x)
unfolding vol6
rise_x n a b c d =
    let A = place 0 in
    let B = place 1 in
    let C = place 2 in
    let D = place 3 in
    let N = place 4 in
    ring (places (a ∷ b ∷ c ∷ d ∷ n ∷ [])) (vol6' A B C D ⊗ N.x)
    ((((dot' N B ⊖ dot' N A) ⊗ (cross' (minus' C A) (minus' D A)).x) ⊕ ((dot' N C ⊖ dot' N A) ⊗ (cross' (minus' D A) (minus' B A)).x)) ⊕ ((dot' N D ⊖ dot' N A) ⊗ (cross' (minus' B A) (minus' C A)).x)) tt

rise_y : (n a b c d : Coordinates)
    → vol6 a b c d *ℤ n.y ≡ (((dot n b -ℤ dot n a) *ℤ (cross (minus c a) (minus d a)).y) +ℤ ((dot n c -ℤ dot n a) *ℤ (cross (minus d a) (minus b a)).y)) +ℤ ((dot n d -ℤ dot n a) *ℤ (cross (minus b a) (minus c a)).y)
unfolding vol6
rise_y n a b c d =
    let A = place 0 in
    let B = place 1 in
    let C = place 2 in
    let D = place 3 in
    let N = place 4 in
    ring (places (a ∷ b ∷ c ∷ d ∷ n ∷ [])) (vol6' A B C D ⊗ N.y)
    ((((dot' N B ⊖ dot' N A) ⊗ (cross' (minus' C A) (minus' D A)).y) ⊕ ((dot' N C ⊖ dot' N A) ⊗ (cross' (minus' D A) (minus' B A)).y)) ⊕ ((dot' N D ⊖ dot' N A) ⊗ (cross' (minus' B A) (minus' C A)).y)) tt

rise_z : (n a b c d : Coordinates)
    → vol6 a b c d *ℤ n.z ≡ (((dot n b -ℤ dot n a) *ℤ (cross (minus c a) (minus d a)).z) +ℤ ((dot n c -ℤ dot n a) *ℤ (cross (minus d a) (minus b a)).z)) +ℤ ((dot n d -ℤ dot n a) *ℤ (cross (minus b a) (minus c a)).z)
unfolding vol6
rise_z n a b c d =
    let A = place 0 in
    let B = place 1 in
    let C = place 2 in
    let D = place 3 in
    let N = place 4 in
    ring (places (a ∷ b ∷ c ∷ d ∷ n ∷ [])) (vol6' A B C D ⊗ N.z)
    ((((dot' N B ⊖ dot' N A) ⊗ (cross' (minus' C A) (minus' D A)).z) ⊕ ((dot' N C ⊖ dot' N A) ⊗ (cross' (minus' D A) (minus' B A)).z)) ⊕ ((dot' N D ⊖ dot' N A) ⊗ (cross' (minus' B A) (minus' C A)).z)) tt

no_rise : (v t fa fb fc fd i j k : ℤ) → v ≡ (((fb -ℤ fa) *ℤ i) +ℤ ((fc -ℤ fa) *ℤ j)) +ℤ ((fd -ℤ fa) *ℤ k) → fa ≡ t → fb ≡ t → fc ≡ t → fd ≡ t → v ≡ pos 0
no_rise v t fa fb fc fd i j k e at_a at_b at_c at_d =
    let b_flat : fb -ℤ fa ≡ pos 0 = omega (arith, ints) in
    let c_flat : fc -ℤ fa ≡ pos 0 = omega (arith, ints) in
    let d_flat : fd -ℤ fa ≡ pos 0 = omega (arith, ints) in
    e ∙ rw (b_flat, c_flat, d_flat) (nothing i j k)
  where
    nothing : (i j k : ℤ) → ((pos 0 *ℤ i) +ℤ (pos 0 *ℤ j)) +ℤ (pos 0 *ℤ k) ≡ pos 0
    nothing i j k = omega (arith, ints)

pub other_factor : (v x : ℤ) → v ≢ pos 0 → v *ℤ x ≡ pos 0 → x ≡ pos 0
other_factor (pos zero) x h e = absurd (h refl)
other_factor (pos (suc m)) (pos zero) h e = refl
other_factor (pos (suc m)) (pos (suc n)) h e = absurd (omega (arith, ints))
other_factor (pos (suc m)) (negsuc n) h e = absurd (omega (arith, ints))
other_factor (negsuc m) (pos zero) h e = refl
other_factor (negsuc m) (pos (suc n)) h e = absurd (omega (arith, ints))
other_factor (negsuc m) (negsuc n) h e = absurd (omega (arith, ints))

all_zero : (x y z : ℤ) → x ≡ pos 0 → y ≡ pos 0 → z ≡ pos 0 → (int_eq x (pos 0) && int_eq y (pos 0) && int_eq z (pos 0)) ≡ true
all_zero x y z e f g = rw (e, f, g) refl

pub level_is_zero : (n a b c d : Coordinates) (t : ℤ) → vol6 a b c d ≢ pos 0 → dot n a ≡ t → dot n b ≡ t → dot n c ≡ t → dot n d ≡ t → is_zero n ≡ true
level_is_zero n a b c d t solid at_a at_b at_c at_d =
    let first = no_rise (vol6 a b c d *ℤ n.x) t (dot n a) (dot n b) (dot n c) (dot n d) (cross (minus c a) (minus d a)).x (cross (minus d a) (minus b a)).x (cross (minus b a) (minus c a)).x
    (rise_x n a b c d) at_a at_b at_c at_d in
    let second = no_rise (vol6 a b c d *ℤ n.y) t (dot n a) (dot n b) (dot n c) (dot n d) (cross (minus c a) (minus d a)).y (cross (minus d a) (minus b a)).y (cross (minus b a) (minus c a)).y
    (rise_y n a b c d) at_a at_b at_c at_d in
    let third = no_rise (vol6 a b c d *ℤ n.z) t (dot n a) (dot n b) (dot n c) (dot n d) (cross (minus c a) (minus d a)).z (cross (minus d a) (minus b a)).z (cross (minus b a) (minus c a)).z
    (rise_z n a b c d) at_a at_b at_c at_d in
    all_zero n.x n.y n.z (other_factor (vol6 a b c d) n.x solid first) (other_factor (vol6 a b c d) n.y solid second) (other_factor (vol6 a b c d) n.z solid third)
