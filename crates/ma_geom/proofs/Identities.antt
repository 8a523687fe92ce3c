-- Identities of vectors, of the volume, and of the sides of a point. Some that nothing cites yet are kept for laws of cavities and of five places, which exchange the tetrahedra around an edge or a face.
use Rattle.std.proofs.Common.{◌≡◌, ℕ, zero, suc, ◌<◌, ◌⊎◌, inl, inr, ⊎_elim, List, [], ◌∷◌, length, arith, refl, ap, ◌∙◌}
use Rattle.std.specs.List.{swap}
use Rattle.std.specs.List.Sorted.{IsPermutation}
use Rattle.std.proofs.lemmas.List.Sorted.{IsPermutation-keeps}
use Rattle.std.proofs.Math.IntN.{+ℤ_comm, neg_ℤ-neg_ℤ}
use Rattle.std.specs.Prelude.{ℤ, pos, ◌+ℤ◌, ◌-ℤ◌, ◌*ℤ◌, neg_ℤ, unsigned_abs, ◌≤ℤ◌}
use Rattle.std.proofs.lemmas.Int.{ints}
use Rattle.ma_geom.specs.Coordinates.{Coordinates}
use Rattle.ma_geom.specs.Rational.{Rational, IsMiddle, IsPoint, point_at, side, share}
use Rattle.ma_geom.specs.Volume.{vol6, dot, cross, minus}
use Rattle.ma_geom.proofs.Integers.{square_not_negative, *ℤ-≤ℤ, *ℤ-≤ℤ-both}
use Rattle.ma_geom.proofs.Reified.{Triple, Quadruple, place, point, places, point_and_places, point_at', dot', cross', minus', vol6', side', share'}
use Rattle.ma_geom.proofs.Ring.{con, neg, ◌⊕◌, ◌⊖◌, ◌⊗◌, ring}

-- the first places of a list, as expressions
abbrev A : Triple
A = place 0

abbrev B : Triple
B = place 1

abbrev C : Triple
C = place 2

abbrev D : Triple
D = place 3

abbrev E : Triple
E = place 4

abbrev P : Quadruple
P = point

-- ---- lengths
-- Lagrange's identity
pub lagrange : (u v : Coordinates) → dot u u *ℤ dot v v ≡ (dot u v *ℤ dot u v) +ℤ dot (cross u v) (cross u v)
lagrange u v =
    ring (places (u ∷ v ∷ [])) (dot' A A ⊗ dot' B B) ((dot' A B ⊗ dot' A B) ⊕ dot' (cross' A B) (cross' A B)) tt

part_of_sum : (p q r : ℤ) → p ≡ q +ℤ r → pos 0 ≤ℤ r → q ≤ℤ p
part_of_sum p q r sum known = omega (arith, ints)

other_part : (p q r : ℤ) → p ≡ q +ℤ r → pos 0 ≤ℤ q → r ≤ℤ p
other_part p q r sum known = omega (arith, ints)

sum_of_three : (p q r : ℤ) → pos 0 ≤ℤ p → pos 0 ≤ℤ q → pos 0 ≤ℤ r → pos 0 ≤ℤ ((p +ℤ q) +ℤ r)
sum_of_three p q r p_known q_known r_known = omega (arith, ints)

-- a length is not negative
pub dot_self : (u : Coordinates) → pos 0 ≤ℤ dot u u
dot_self u = sum_of_three (u.x *ℤ u.x) (u.y *ℤ u.y) (u.z *ℤ u.z) (square_not_negative u.x) (square_not_negative u.y) (square_not_negative u.z)

-- the inequality of Cauchy and Schwarz
pub dot_squared : (u v : Coordinates) → (dot u v *ℤ dot u v) ≤ℤ (dot u u *ℤ dot v v)
dot_squared u v =
    part_of_sum (dot u u *ℤ dot v v) (dot u v *ℤ dot u v) (dot (cross u v) (cross u v)) (lagrange u v) (dot_self (cross u v))

pub cross_squared : (u v : Coordinates) → dot (cross u v) (cross u v) ≤ℤ (dot u u *ℤ dot v v)
cross_squared u v =
    other_part (dot u u *ℤ dot v v) (dot u v *ℤ dot u v) (dot (cross u v) (cross u v)) (lagrange u v) (square_not_negative (dot u v))

at_most : (p q r : ℤ) → p ≤ℤ q → q ≤ℤ r → p ≤ℤ r
at_most p q r first second = omega (arith, ints)

-- a triple product is at most the product of the three lengths
pub vol6_squared : (u v w : Coordinates) → (dot (cross u v) w *ℤ dot (cross u v) w) ≤ℤ ((dot u u *ℤ dot v v) *ℤ dot w w)
vol6_squared u v w =
    at_most (dot (cross u v) w *ℤ dot (cross u v) w) (dot (cross u v) (cross u v) *ℤ dot w w) ((dot u u *ℤ dot v v) *ℤ dot w w)
    (dot_squared (cross u v) w)
    (*ℤ-≤ℤ (dot (cross u v) (cross u v)) (dot u u *ℤ dot v v) (dot w w) (cross_squared u v) (dot_self w))

-- so a volume, taken six times, is at most the product of three edges that meet
pub vol6_squared_edges : (a b c d : Coordinates)
    → (vol6 a b c d *ℤ vol6 a b c d) ≤ℤ ((dot (minus b a) (minus b a) *ℤ dot (minus c a) (minus c a)) *ℤ dot (minus d a) (minus d a))
unfolding vol6
vol6_squared_edges a b c d = vol6_squared (minus b a) (minus c a) (minus d a)

-- where no edge at a has a square above m
pub vol6_squared_at_most : (a b c d : Coordinates) (m : ℤ) → dot (minus b a) (minus b a) ≤ℤ m → dot (minus c a) (minus c a) ≤ℤ m → dot (minus d a) (minus d a) ≤ℤ m
    → (vol6 a b c d *ℤ vol6 a b c d) ≤ℤ ((m *ℤ m) *ℤ m)
vol6_squared_at_most a b c d m first second third =
    let m_known : pos 0 ≤ℤ m = at_most (pos 0) (dot (minus b a) (minus b a)) m (dot_self (minus b a)) first in
    let two = *ℤ-≤ℤ-both (dot (minus b a) (minus b a)) m (dot (minus c a) (minus c a)) m first second m_known (dot_self (minus c a)) in
    let three =
    *ℤ-≤ℤ-both (dot (minus b a) (minus b a) *ℤ dot (minus c a) (minus c a)) (m *ℤ m) (dot (minus d a) (minus d a)) m two third (square_not_negative m) (dot_self (minus d a)) in
    at_most (vol6 a b c d *ℤ vol6 a b c d) ((dot (minus b a) (minus b a) *ℤ dot (minus c a) (minus c a)) *ℤ dot (minus d a) (minus d a)) ((m *ℤ m) *ℤ m) (vol6_squared_edges a b c d) three

-- ---- two corners exchanged: the volume turns its sign
pub vol6_exchange_ab : (a b c d : Coordinates) → vol6 b a c d ≡ neg_ℤ (vol6 a b c d)
unfolding vol6
vol6_exchange_ab a b c d = ring (places (a ∷ b ∷ c ∷ d ∷ [])) (vol6' B A C D) (neg (vol6' A B C D)) tt

pub vol6_exchange_bc : (a b c d : Coordinates) → vol6 a c b d ≡ neg_ℤ (vol6 a b c d)
unfolding vol6
vol6_exchange_bc a b c d = ring (places (a ∷ b ∷ c ∷ d ∷ [])) (vol6' A C B D) (neg (vol6' A B C D)) tt

pub vol6_exchange_cd : (a b c d : Coordinates) → vol6 a b d c ≡ neg_ℤ (vol6 a b c d)
unfolding vol6
vol6_exchange_cd a b c d = ring (places (a ∷ b ∷ c ∷ d ∷ [])) (vol6' A B D C) (neg (vol6' A B C D)) tt

pub vol6_exchange_ac : (a b c d : Coordinates) → vol6 c b a d ≡ neg_ℤ (vol6 a b c d)
unfolding vol6
vol6_exchange_ac a b c d = ring (places (a ∷ b ∷ c ∷ d ∷ [])) (vol6' C B A D) (neg (vol6' A B C D)) tt

pub vol6_exchange_bd : (a b c d : Coordinates) → vol6 a d c b ≡ neg_ℤ (vol6 a b c d)
unfolding vol6
vol6_exchange_bd a b c d = ring (places (a ∷ b ∷ c ∷ d ∷ [])) (vol6' A D C B) (neg (vol6' A B C D)) tt

pub vol6_exchange_ad : (a b c d : Coordinates) → vol6 d b c a ≡ neg_ℤ (vol6 a b c d)
unfolding vol6
vol6_exchange_ad a b c d = ring (places (a ∷ b ∷ c ∷ d ∷ [])) (vol6' D B C A) (neg (vol6' A B C D)) tt

-- three corners turned round keep it
pub vol6_turn_abc : (a b c d : Coordinates) → vol6 b c a d ≡ vol6 a b c d
unfolding vol6
vol6_turn_abc a b c d = ring (places (a ∷ b ∷ c ∷ d ∷ [])) (vol6' B C A D) (vol6' A B C D) tt

pub vol6_turn_bcd : (a b c d : Coordinates) → vol6 a c d b ≡ vol6 a b c d
unfolding vol6
vol6_turn_bcd a b c d = ring (places (a ∷ b ∷ c ∷ d ∷ [])) (vol6' A C D B) (vol6' A B C D) tt

-- two equal corners leave none
pub vol6_same_ab : (a c d : Coordinates) → vol6 a a c d ≡ pos 0
unfolding vol6
vol6_same_ab a c d = ring (places (a ∷ c ∷ d ∷ [])) (vol6' A A B C) (con (pos 0)) tt

pub vol6_same_bc : (a b d : Coordinates) → vol6 a b b d ≡ pos 0
unfolding vol6
vol6_same_bc a b d = ring (places (a ∷ b ∷ d ∷ [])) (vol6' A B B C) (con (pos 0)) tt

pub vol6_same_cd : (a b c : Coordinates) → vol6 a b c c ≡ pos 0
unfolding vol6
vol6_same_cd a b c = ring (places (a ∷ b ∷ c ∷ [])) (vol6' A B C C) (con (pos 0)) tt

pub vol6_same_ac : (a b d : Coordinates) → vol6 a b a d ≡ pos 0
unfolding vol6
vol6_same_ac a b d = ring (places (a ∷ b ∷ d ∷ [])) (vol6' A B A C) (con (pos 0)) tt

pub vol6_same_bd : (a b c : Coordinates) → vol6 a b c b ≡ pos 0
unfolding vol6
vol6_same_bd a b c = ring (places (a ∷ b ∷ c ∷ [])) (vol6' A B C B) (con (pos 0)) tt

pub vol6_same_ad : (a b c : Coordinates) → vol6 a b c a ≡ pos 0
unfolding vol6
vol6_same_ad a b c = ring (places (a ∷ b ∷ c ∷ [])) (vol6' A B C A) (con (pos 0)) tt

-- moved by one vector, the corners have the same volume
abbrev pub moved : Coordinates → Coordinates → Coordinates
moved t a = record { x = a.x +ℤ t.x; y = a.y +ℤ t.y; z = a.z +ℤ t.z }

abbrev moved' : Triple → Triple → Triple
moved' t a = record { x = a.x ⊕ t.x; y = a.y ⊕ t.y; z = a.z ⊕ t.z }

pub vol6_moved : (t a b c d : Coordinates) → vol6 (moved t a) (moved t b) (moved t c) (moved t d) ≡ vol6 a b c d
unfolding vol6
vol6_moved t a b c d =
    ring (places (a ∷ b ∷ c ∷ d ∷ t ∷ [])) (vol6' (moved' E A) (moved' E B) (moved' E C) (moved' E D)) (vol6' A B C D) tt

-- ---- the sides of a point
pub point_at-IsPoint : (a : Coordinates) → IsPoint (point_at a)
point_at-IsPoint a = record { positive = omega (arith, ints) }

-- a place has the volume as its side
pub side_of_place : (a b c d : Coordinates) → side a b c (point_at d) ≡ vol6 a b c d
unfolding vol6 side
side_of_place a b c d = ring (places (a ∷ b ∷ c ∷ d ∷ [])) (side' A B C (point_at' D)) (vol6' A B C D) tt

pub side_exchange_ab : (a b c : Coordinates) (p : Rational) → side b a c p ≡ neg_ℤ (side a b c p)
unfolding side
side_exchange_ab a b c p = ring (point_and_places p (a ∷ b ∷ c ∷ [])) (side' B A C P) (neg (side' A B C P)) tt

pub side_exchange_bc : (a b c : Coordinates) (p : Rational) → side a c b p ≡ neg_ℤ (side a b c p)
unfolding side
side_exchange_bc a b c p = ring (point_and_places p (a ∷ b ∷ c ∷ [])) (side' A C B P) (neg (side' A B C P)) tt

pub side_exchange_ac : (a b c : Coordinates) (p : Rational) → side c b a p ≡ neg_ℤ (side a b c p)
unfolding side
side_exchange_ac a b c p = ring (point_and_places p (a ∷ b ∷ c ∷ [])) (side' C B A P) (neg (side' A B C P)) tt

pub side_turn : (a b c : Coordinates) (p : Rational) → side b c a p ≡ side a b c p
unfolding side
side_turn a b c p = ring (point_and_places p (a ∷ b ∷ c ∷ [])) (side' B C A P) (side' A B C P) tt

pub side_same_ab : (a c : Coordinates) (p : Rational) → side a a c p ≡ pos 0
unfolding side
side_same_ab a c p = ring (point_and_places p (a ∷ c ∷ [])) (side' A A B P) (con (pos 0)) tt

pub side_same_bc : (a b : Coordinates) (p : Rational) → side a b b p ≡ pos 0
unfolding side
side_same_bc a b p = ring (point_and_places p (a ∷ b ∷ [])) (side' A B B P) (con (pos 0)) tt

pub side_same_ac : (a b : Coordinates) (p : Rational) → side a b a p ≡ pos 0
unfolding side
side_same_ac a b p = ring (point_and_places p (a ∷ b ∷ [])) (side' A B A P) (con (pos 0)) tt

-- the four sides of a point sum to the whole volume
pub sides_sum : (a b c d : Coordinates) (p : Rational) → ((side a b c p -ℤ side a b d p) +ℤ side a c d p) -ℤ side b c d p ≡ p.w *ℤ vol6 a b c d
unfolding vol6 side
sides_sum a b c d p = ring (point_and_places p (a ∷ b ∷ c ∷ d ∷ [])) (((side' A B C P ⊖ side' A B D P) ⊕ side' A C D P) ⊖ side' B C D P) (P.w ⊗ vol6' A B C D) tt

-- the same of a fifth place
pub volumes_sum : (a b c d e : Coordinates) → ((vol6 a b c e -ℤ vol6 a b d e) +ℤ vol6 a c d e) -ℤ vol6 b c d e ≡ vol6 a b c d
unfolding vol6
volumes_sum a b c d e = ring (places (a ∷ b ∷ c ∷ d ∷ e ∷ [])) (((vol6' A B C E ⊖ vol6' A B D E) ⊕ vol6' A C D E) ⊖ vol6' B C D E) (vol6' A B C D) tt

-- and by the four tetrahedra that have it in place of a corner
pub parts_sum : (a b c d e : Coordinates) → ((vol6 e b c d +ℤ vol6 a e c d) +ℤ vol6 a b e d) +ℤ vol6 a b c e ≡ vol6 a b c d
unfolding vol6
parts_sum a b c d e = ring (places (a ∷ b ∷ c ∷ d ∷ e ∷ [])) (((vol6' E B C D ⊕ vol6' A E C D) ⊕ vol6' A B E D) ⊕ vol6' A B C E) (vol6' A B C D) tt

-- the volumes of the five tetrahedra of five places, in turn added and taken away, cancel
pub five_places : (a b c d e : Coordinates) → (((vol6 b c d e -ℤ vol6 a c d e) +ℤ vol6 a b d e) -ℤ vol6 a b c e) +ℤ vol6 a b c d ≡ pos 0
unfolding vol6
five_places a b c d e = ring (places (a ∷ b ∷ c ∷ d ∷ e ∷ [])) ((((vol6' B C D E ⊖ vol6' A C D E) ⊕ vol6' A B D E) ⊖ vol6' A B C E) ⊕ vol6' A B C D) (con (pos 0)) tt

-- ---- Cramer's rule: a point is the mean of a tetrahedron's corners, each weighed by the side of the point at the face across from it
pub cramer_x : (a b c d : Coordinates) (p : Rational) → (((side a b c p *ℤ d.x) -ℤ (side a b d p *ℤ c.x)) +ℤ (side a c d p *ℤ b.x)) -ℤ (side b c d p *ℤ a.x) ≡ vol6 a b c d *ℤ p.x
unfolding vol6 side
cramer_x a b c d p = ring (point_and_places p (a ∷ b ∷ c ∷ d ∷ [])) ((((side' A B C P ⊗ D.x) ⊖ (side' A B D P ⊗ C.x)) ⊕ (side' A C D P ⊗ B.x)) ⊖ (side' B C D P ⊗ A.x)) (vol6' A B C D ⊗ P.x) tt

pub cramer_y : (a b c d : Coordinates) (p : Rational) → (((side a b c p *ℤ d.y) -ℤ (side a b d p *ℤ c.y)) +ℤ (side a c d p *ℤ b.y)) -ℤ (side b c d p *ℤ a.y) ≡ vol6 a b c d *ℤ p.y
unfolding vol6 side
cramer_y a b c d p = ring (point_and_places p (a ∷ b ∷ c ∷ d ∷ [])) ((((side' A B C P ⊗ D.y) ⊖ (side' A B D P ⊗ C.y)) ⊕ (side' A C D P ⊗ B.y)) ⊖ (side' B C D P ⊗ A.y)) (vol6' A B C D ⊗ P.y) tt

pub cramer_z : (a b c d : Coordinates) (p : Rational) → (((side a b c p *ℤ d.z) -ℤ (side a b d p *ℤ c.z)) +ℤ (side a c d p *ℤ b.z)) -ℤ (side b c d p *ℤ a.z) ≡ vol6 a b c d *ℤ p.z
unfolding vol6 side
cramer_z a b c d p = ring (point_and_places p (a ∷ b ∷ c ∷ d ∷ [])) ((((side' A B C P ⊗ D.z) ⊖ (side' A B D P ⊗ C.z)) ⊕ (side' A C D P ⊗ B.z)) ⊖ (side' B C D P ⊗ A.z)) (vol6' A B C D ⊗ P.z) tt

abbrev normal : Coordinates → Coordinates → Coordinates → Coordinates
normal a b c = cross (minus b a) (minus c a)

abbrev normal' : Triple → Triple → Triple → Triple
normal' a b c = cross' (minus' b a) (minus' c a)

-- in a triangle's plane it is the mean of three, each weighed by its share
pub shares_sum : (a b c : Coordinates) (p : Rational) → (share a b c p +ℤ share b c a p) +ℤ share c a b p ≡ p.w *ℤ dot (cross (minus b a) (minus c a)) (cross (minus b a) (minus c a))
unfolding share
shares_sum a b c p = ring (point_and_places p (a ∷ b ∷ c ∷ [])) ((share' A B C P ⊕ share' B C A P) ⊕ share' C A B P) (P.w ⊗ dot' (normal' A B C) (normal' A B C)) tt

-- elsewhere it is off that mean along the normal, by its side
pub plane_x : (a b c : Coordinates) (p : Rational) → ((share a b c p *ℤ a.x) +ℤ (share b c a p *ℤ b.x)) +ℤ (share c a b p *ℤ c.x) ≡ (dot (cross (minus b a) (minus c a)) (cross (minus b a) (minus c a)) *ℤ p.x) -ℤ (side a b c p *ℤ (cross (minus b a) (minus c a)).x)
unfolding side share
plane_x a b c p = ring (point_and_places p (a ∷ b ∷ c ∷ [])) (((share' A B C P ⊗ A.x) ⊕ (share' B C A P ⊗ B.x)) ⊕ (share' C A B P ⊗ C.x)) ((dot' (normal' A B C) (normal' A B C) ⊗ P.x) ⊖ (side' A B C P ⊗ (normal' A B C).x)) tt

pub plane_y : (a b c : Coordinates) (p : Rational) → ((share a b c p *ℤ a.y) +ℤ (share b c a p *ℤ b.y)) +ℤ (share c a b p *ℤ c.y) ≡ (dot (cross (minus b a) (minus c a)) (cross (minus b a) (minus c a)) *ℤ p.y) -ℤ (side a b c p *ℤ (cross (minus b a) (minus c a)).y)
unfolding side share
plane_y a b c p = ring (point_and_places p (a ∷ b ∷ c ∷ [])) (((share' A B C P ⊗ A.y) ⊕ (share' B C A P ⊗ B.y)) ⊕ (share' C A B P ⊗ C.y)) ((dot' (normal' A B C) (normal' A B C) ⊗ P.y) ⊖ (side' A B C P ⊗ (normal' A B C).y)) tt

pub plane_z : (a b c : Coordinates) (p : Rational) → ((share a b c p *ℤ a.z) +ℤ (share b c a p *ℤ b.z)) +ℤ (share c a b p *ℤ c.z) ≡ (dot (cross (minus b a) (minus c a)) (cross (minus b a) (minus c a)) *ℤ p.z) -ℤ (side a b c p *ℤ (cross (minus b a) (minus c a)).z)
unfolding side share
plane_z a b c p = ring (point_and_places p (a ∷ b ∷ c ∷ [])) (((share' A B C P ⊗ A.z) ⊕ (share' B C A P ⊗ B.z)) ⊕ (share' C A B P ⊗ C.z)) ((dot' (normal' A B C) (normal' A B C) ⊗ P.z) ⊖ (side' A B C P ⊗ (normal' A B C).z)) tt

-- where the point is in the plane
without_term : (l q s n : ℤ) → l ≡ q -ℤ (s *ℤ n) → s ≡ pos 0 → l ≡ q
without_term l q s n is flat = is ∙ rw flat (nothing q n)
  where
    nothing : (q n : ℤ) → q -ℤ (pos 0 *ℤ n) ≡ q
    nothing q n = omega (arith, ints)

pub in_plane_x : (a b c : Coordinates) (p : Rational) → side a b c p ≡ pos 0 → ((share a b c p *ℤ a.x) +ℤ (share b c a p *ℤ b.x)) +ℤ (share c a b p *ℤ c.x) ≡ dot (cross (minus b a) (minus c a)) (cross (minus b a) (minus c a)) *ℤ p.x
in_plane_x a b c p flat =
    without_term (((share a b c p *ℤ a.x) +ℤ (share b c a p *ℤ b.x)) +ℤ (share c a b p *ℤ c.x)) (dot (cross (minus b a) (minus c a)) (cross (minus b a) (minus c a)) *ℤ p.x) (side a b c p) (normal a b c).x (plane_x a b c p) flat

pub in_plane_y : (a b c : Coordinates) (p : Rational) → side a b c p ≡ pos 0 → ((share a b c p *ℤ a.y) +ℤ (share b c a p *ℤ b.y)) +ℤ (share c a b p *ℤ c.y) ≡ dot (cross (minus b a) (minus c a)) (cross (minus b a) (minus c a)) *ℤ p.y
in_plane_y a b c p flat =
    without_term (((share a b c p *ℤ a.y) +ℤ (share b c a p *ℤ b.y)) +ℤ (share c a b p *ℤ c.y)) (dot (cross (minus b a) (minus c a)) (cross (minus b a) (minus c a)) *ℤ p.y) (side a b c p) (normal a b c).y (plane_y a b c p) flat

pub in_plane_z : (a b c : Coordinates) (p : Rational) → side a b c p ≡ pos 0 → ((share a b c p *ℤ a.z) +ℤ (share b c a p *ℤ b.z)) +ℤ (share c a b p *ℤ c.z) ≡ dot (cross (minus b a) (minus c a)) (cross (minus b a) (minus c a)) *ℤ p.z
in_plane_z a b c p flat =
    without_term (((share a b c p *ℤ a.z) +ℤ (share b c a p *ℤ b.z)) +ℤ (share c a b p *ℤ c.z)) (dot (cross (minus b a) (minus c a)) (cross (minus b a) (minus c a)) *ℤ p.z) (side a b c p) (normal a b c).z (plane_z a b c p) flat

-- ---- an edge halved
-- the other end of an edge with the middle m
abbrev mirror : Coordinates → Coordinates → Coordinates
mirror m b = record { x = (m.x +ℤ m.x) -ℤ b.x; y = (m.y +ℤ m.y) -ℤ b.y; z = (m.z +ℤ m.z) -ℤ b.z }

abbrev mirror' : Triple → Triple → Triple
mirror' m b = record { x = (m.x ⊕ m.x) ⊖ b.x; y = (m.y ⊕ m.y) ⊖ b.y; z = (m.z ⊕ m.z) ⊖ b.z }

mirrored : (m a b : ℤ) → m +ℤ m ≡ a +ℤ b → (m +ℤ m) -ℤ b ≡ a
mirrored m a b e = omega (arith, ints)

first_end : (m a b : Coordinates) → IsMiddle m a b → mirror m b ≡ a
first_end m a b middle =
    let xs = mirrored m.x a.x b.x middle.x in
    let ys = mirrored m.y a.y b.y middle.y in
    let zs = mirrored m.z a.z b.z middle.z in
    λ i. record { x = xs i; y = ys i; z = zs i }

pub IsMiddle-exchange : (m a b : Coordinates) → IsMiddle m a b → IsMiddle m b a
IsMiddle-exchange m a b middle =
    record { x = middle.x ∙ +ℤ_comm a.x b.x; y = middle.y ∙ +ℤ_comm a.y b.y; z = middle.z ∙ +ℤ_comm a.z b.z }

half_at_mirror : (m b c d : Coordinates) → vol6 m b c d +ℤ vol6 m b c d ≡ vol6 (mirror m b) b c d
unfolding vol6
half_at_mirror m b c d = ring (places (m ∷ b ∷ c ∷ d ∷ [])) (vol6' A B C D ⊕ vol6' A B C D) (vol6' (mirror' A B) B C D) tt

other_half_at_mirror : (m a c d : Coordinates) → vol6 a m c d +ℤ vol6 a m c d ≡ vol6 a (mirror m a) c d
unfolding vol6
other_half_at_mirror m a c d = ring (places (m ∷ a ∷ c ∷ d ∷ [])) (vol6' B A C D ⊕ vol6' B A C D) (vol6' B (mirror' A B) C D) tt

-- each half has half the volume
pub vol6_half : (m a b c d : Coordinates) → IsMiddle m a b → vol6 m b c d +ℤ vol6 m b c d ≡ vol6 a b c d
vol6_half m a b c d middle = half_at_mirror m b c d ∙ ap (λ t. vol6 t b c d) (first_end m a b middle)

pub vol6_other_half : (m a b c d : Coordinates) → IsMiddle m a b → vol6 a m c d +ℤ vol6 a m c d ≡ vol6 a b c d
vol6_other_half m a b c d middle =
    other_half_at_mirror m a c d ∙ ap (λ t. vol6 a t c d) (first_end m b a (IsMiddle-exchange m a b middle))

middle_at_mirror : (m b c d : Coordinates) (p : Rational) → side m c d p +ℤ side m c d p ≡ side (mirror m b) c d p +ℤ side b c d p
unfolding side
middle_at_mirror m b c d p =
    ring (point_and_places p (m ∷ b ∷ c ∷ d ∷ [])) (side' A C D P ⊕ side' A C D P) (side' (mirror' A B) C D P ⊕ side' B C D P) tt

-- the side at the triangle that parts the halves is the mean of those at the two faces
pub side_middle : (m a b c d : Coordinates) (p : Rational) → IsMiddle m a b → side m c d p +ℤ side m c d p ≡ side a c d p +ℤ side b c d p
side_middle m a b c d p middle = middle_at_mirror m b c d p ∙ ap (λ t. side t c d p +ℤ side b c d p) (first_end m a b middle)

-- ---- corners in any order
turned_flat : (v : ℤ) → v ≡ pos 0 → neg_ℤ v ≡ pos 0
turned_flat v flat = omega (arith, ints)

pub flat_exchange_ab : (a b c d : Coordinates) → vol6 a b c d ≡ pos 0 → vol6 b a c d ≡ pos 0
flat_exchange_ab a b c d flat = vol6_exchange_ab a b c d ∙ turned_flat (vol6 a b c d) flat

pub flat_exchange_bc : (a b c d : Coordinates) → vol6 a b c d ≡ pos 0 → vol6 a c b d ≡ pos 0
flat_exchange_bc a b c d flat = vol6_exchange_bc a b c d ∙ turned_flat (vol6 a b c d) flat

pub flat_exchange_cd : (a b c d : Coordinates) → vol6 a b c d ≡ pos 0 → vol6 a b d c ≡ pos 0
flat_exchange_cd a b c d flat = vol6_exchange_cd a b c d ∙ turned_flat (vol6 a b c d) flat

pub flat_exchange_ac : (a b c d : Coordinates) → vol6 a b c d ≡ pos 0 → vol6 c b a d ≡ pos 0
flat_exchange_ac a b c d flat = vol6_exchange_ac a b c d ∙ turned_flat (vol6 a b c d) flat

pub flat_exchange_bd : (a b c d : Coordinates) → vol6 a b c d ≡ pos 0 → vol6 a d c b ≡ pos 0
flat_exchange_bd a b c d flat = vol6_exchange_bd a b c d ∙ turned_flat (vol6 a b c d) flat

pub flat_exchange_ad : (a b c d : Coordinates) → vol6 a b c d ≡ pos 0 → vol6 d b c a ≡ pos 0
flat_exchange_ad a b c d flat = vol6_exchange_ad a b c d ∙ turned_flat (vol6 a b c d) flat

-- four corners with the volume v or its negative
abbrev HasVolume : ℤ → List Coordinates → Type 0
HasVolume v (a ∷ b ∷ c ∷ d ∷ []) = (vol6 a b c d ≡ v) ⊎ (vol6 a b c d ≡ neg_ℤ v)
HasVolume v _ = ⊥

turned : (v s t : ℤ) → t ≡ neg_ℤ s → (s ≡ v) ⊎ (s ≡ neg_ℤ v) → (t ≡ v) ⊎ (t ≡ neg_ℤ v)
turned v s t turn (inl e) = inr (turn ∙ ap neg_ℤ e)
turned v s t turn (inr e) = inl (turn ∙ ap neg_ℤ e ∙ neg_ℤ-neg_ℤ v)

exchange_keeps : (v : ℤ) (l : List Coordinates) (i j : ℕ) → i < length l → j < length l → HasVolume v l → HasVolume v (swap l i j)
exchange_keeps v [] i j _ _ h = absurd h
exchange_keeps v (a ∷ []) i j _ _ h = absurd h
exchange_keeps v (a ∷ b ∷ []) i j _ _ h = absurd h
exchange_keeps v (a ∷ b ∷ c ∷ []) i j _ _ h = absurd h
exchange_keeps v (a ∷ b ∷ c ∷ d ∷ []) zero zero _ _ h = h
exchange_keeps v (a ∷ b ∷ c ∷ d ∷ []) zero (suc zero) _ _ h = turned v (vol6 a b c d) (vol6 b a c d) (vol6_exchange_ab a b c d) h
exchange_keeps v (a ∷ b ∷ c ∷ d ∷ []) zero (suc (suc zero)) _ _ h = turned v (vol6 a b c d) (vol6 c b a d) (vol6_exchange_ac a b c d) h
exchange_keeps v (a ∷ b ∷ c ∷ d ∷ []) zero (suc (suc (suc zero))) _ _ h = turned v (vol6 a b c d) (vol6 d b c a) (vol6_exchange_ad a b c d) h
exchange_keeps v (a ∷ b ∷ c ∷ d ∷ []) zero (suc (suc (suc (suc k)))) _ below h = absurd (omega arith)
exchange_keeps v (a ∷ b ∷ c ∷ d ∷ []) (suc zero) zero _ _ h = turned v (vol6 a b c d) (vol6 b a c d) (vol6_exchange_ab a b c d) h
exchange_keeps v (a ∷ b ∷ c ∷ d ∷ []) (suc zero) (suc zero) _ _ h = h
exchange_keeps v (a ∷ b ∷ c ∷ d ∷ []) (suc zero) (suc (suc zero)) _ _ h = turned v (vol6 a b c d) (vol6 a c b d) (vol6_exchange_bc a b c d) h
exchange_keeps v (a ∷ b ∷ c ∷ d ∷ []) (suc zero) (suc (suc (suc zero))) _ _ h = turned v (vol6 a b c d) (vol6 a d c b) (vol6_exchange_bd a b c d) h
exchange_keeps v (a ∷ b ∷ c ∷ d ∷ []) (suc zero) (suc (suc (suc (suc k)))) _ below h = absurd (omega arith)
exchange_keeps v (a ∷ b ∷ c ∷ d ∷ []) (suc (suc zero)) zero _ _ h = turned v (vol6 a b c d) (vol6 c b a d) (vol6_exchange_ac a b c d) h
exchange_keeps v (a ∷ b ∷ c ∷ d ∷ []) (suc (suc zero)) (suc zero) _ _ h = turned v (vol6 a b c d) (vol6 a c b d) (vol6_exchange_bc a b c d) h
exchange_keeps v (a ∷ b ∷ c ∷ d ∷ []) (suc (suc zero)) (suc (suc zero)) _ _ h = h
exchange_keeps v (a ∷ b ∷ c ∷ d ∷ []) (suc (suc zero)) (suc (suc (suc zero))) _ _ h = turned v (vol6 a b c d) (vol6 a b d c) (vol6_exchange_cd a b c d) h
exchange_keeps v (a ∷ b ∷ c ∷ d ∷ []) (suc (suc zero)) (suc (suc (suc (suc k)))) _ below h = absurd (omega arith)
exchange_keeps v (a ∷ b ∷ c ∷ d ∷ []) (suc (suc (suc zero))) zero _ _ h = turned v (vol6 a b c d) (vol6 d b c a) (vol6_exchange_ad a b c d) h
exchange_keeps v (a ∷ b ∷ c ∷ d ∷ []) (suc (suc (suc zero))) (suc zero) _ _ h = turned v (vol6 a b c d) (vol6 a d c b) (vol6_exchange_bd a b c d) h
exchange_keeps v (a ∷ b ∷ c ∷ d ∷ []) (suc (suc (suc zero))) (suc (suc zero)) _ _ h = turned v (vol6 a b c d) (vol6 a b d c) (vol6_exchange_cd a b c d) h
exchange_keeps v (a ∷ b ∷ c ∷ d ∷ []) (suc (suc (suc zero))) (suc (suc (suc zero))) _ _ h = h
exchange_keeps v (a ∷ b ∷ c ∷ d ∷ []) (suc (suc (suc zero))) (suc (suc (suc (suc k)))) _ below h = absurd (omega arith)
exchange_keeps v (a ∷ b ∷ c ∷ d ∷ []) (suc (suc (suc (suc k)))) j below _ h = absurd (omega arith)
exchange_keeps v (a ∷ b ∷ c ∷ d ∷ e ∷ l) i j _ _ h = absurd h

-- in another order, four corners have the same volume or its negative
pub vol6_in_any_order : (a b c d e f g h : Coordinates) → IsPermutation (a ∷ b ∷ c ∷ d ∷ []) (e ∷ f ∷ g ∷ h ∷ [])
    → (vol6 e f g h ≡ vol6 a b c d) ⊎ (vol6 e f g h ≡ neg_ℤ (vol6 a b c d))
vol6_in_any_order a b c d e f g h moved =
    IsPermutation-keeps (a ∷ b ∷ c ∷ d ∷ []) (HasVolume (vol6 a b c d)) (inl refl) (exchange_keeps (vol6 a b c d)) (e ∷ f ∷ g ∷ h ∷ []) moved

-- and lie in one plane in one order just if they do in another
pub flat_in_any_order : (a b c d e f g h : Coordinates) → IsPermutation (a ∷ b ∷ c ∷ d ∷ []) (e ∷ f ∷ g ∷ h ∷ []) → vol6 a b c d ≡ pos 0 → vol6 e f g h ≡ pos 0
flat_in_any_order a b c d e f g h moved flat =
    ⊎_elim (λ same. same ∙ flat) (λ turn. turn ∙ turned_flat (vol6 a b c d) flat) (vol6_in_any_order a b c d e f g h moved)

-- without its sign the volume is one
opposite : (u v : ℤ) → u ≡ neg_ℤ v → unsigned_abs u ≡ unsigned_abs v
opposite u v e = omega (arith, ints)

pub size_in_any_order : (a b c d e f g h : Coordinates) → IsPermutation (a ∷ b ∷ c ∷ d ∷ []) (e ∷ f ∷ g ∷ h ∷ [])
    → unsigned_abs (vol6 e f g h) ≡ unsigned_abs (vol6 a b c d)
size_in_any_order a b c d e f g h moved =
    ⊎_elim (λ same. ap unsigned_abs same) (λ turn. opposite (vol6 e f g h) (vol6 a b c d) turn) (vol6_in_any_order a b c d e f g h moved)
