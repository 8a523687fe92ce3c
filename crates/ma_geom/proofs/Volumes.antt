-- How large a volume can be for the longest edge.
use Rattle.std.proofs.Common.{◌≡◌, ℕ, ◌+◌, ◌-◌, ◌*◌, ◌<◌, ◌≤◌, refl, inl, inr, subst, arith}
use Rattle.std.proofs.lemmas.Bool.{cases_lt}
use Rattle.std.proofs.lemmas.Int.{ints, unsigned_abs-mul}
use Rattle.std.specs.Prelude.{ℤ, pos, negsuc, ◌+ℤ◌, ◌-ℤ◌, ◌*ℤ◌, unsigned_abs}
use Rattle.ma_geom.specs.Coordinates.{Coordinates}
use Rattle.ma_geom.specs.Lengths.{len2}
use Rattle.ma_geom.specs.Quality.{longest2}
use Rattle.ma_geom.specs.Volume.{vol6, cross, dot, minus}
use Rattle.ma_geom.proofs.Products.{product_bound}
use Rattle.ma_geom.proofs.Roots.{below_root}

-- a square is at least zero
square_is : (z : ℤ) → z *ℤ z ≡ pos (unsigned_abs z * unsigned_abs z)
square_is (pos n) = refl
square_is (negsuc n) = refl

pub squares_are : (x y z : ℤ) → unsigned_abs (((x *ℤ x) +ℤ (y *ℤ y)) +ℤ (z *ℤ z)) ≡ unsigned_abs x * unsigned_abs x + unsigned_abs y * unsigned_abs y + unsigned_abs z * unsigned_abs z
squares_are x y z = rw (square_is x, square_is y, square_is z)

-- twice a product is at most the sum of the squares
ordered_twice : (a d : ℕ) → 2 * (a * (a + d)) ≤ a * a + (a + d) * (a + d)
ordered_twice a d = omega arith

twice_product : (a b : ℕ) → 2 * (a * b) ≤ a * a + b * b
twice_product a b =
    elim (cases_lt a b) [
      | inl below ↦ let e : a + (b - a) ≡ b = omega arith in subst (λ (n : ℕ). 2 * (a * n) ≤ a * a + n * n) e (ordered_twice a (b - a))
      | inr above ↦
          let e : b + (a - b) ≡ a = omega arith in
          let turned : 2 * (b * a) ≤ b * b + a * a = subst (λ (n : ℕ). 2 * (b * n) ≤ b * b + n * n) e (ordered_twice b (a - b)) in
          omega (arith, turned)
    ]

-- a component of the cross product of two edges is at most the longest squared edge
minor_within : (p q r s : ℤ) (l : ℕ) → unsigned_abs p * unsigned_abs p + unsigned_abs q * unsigned_abs q ≤ l → unsigned_abs r * unsigned_abs r + unsigned_abs s * unsigned_abs s ≤ l
    → unsigned_abs ((p *ℤ s) -ℤ (q *ℤ r)) ≤ l
minor_within p q r s l first second =
    let ps : unsigned_abs (p *ℤ s) ≡ unsigned_abs p * unsigned_abs s = unsigned_abs-mul p s in
    let qr : unsigned_abs (q *ℤ r) ≡ unsigned_abs q * unsigned_abs r = unsigned_abs-mul q r in
    let one = twice_product (unsigned_abs p) (unsigned_abs s) in
    let two = twice_product (unsigned_abs q) (unsigned_abs r) in
    omega (arith, ints)

-- a component times one of a third edge
term_within : (m w : ℤ) (x l s : ℕ) → unsigned_abs m ≤ l → unsigned_abs w * unsigned_abs w + x ≤ l → l < (s + 1) * (s + 1) → unsigned_abs (m *ℤ w) ≤ l * s
term_within m w x l s component edge high =
    let near : unsigned_abs w ≤ s = below_root (unsigned_abs w) s l (omega arith) high in
    product_bound m w l s component near

sum_within : (x y z : ℤ) (n : ℕ) → unsigned_abs x ≤ n → unsigned_abs y ≤ n → unsigned_abs z ≤ n → unsigned_abs ((x +ℤ y) +ℤ z) ≤ 3 * n
sum_within x y z n x_in y_in z_in = omega (arith, ints)

-- the squares of a vector's components
record IsWithin (v : Coordinates) (l : ℕ) : Type 0 where
  sum : unsigned_abs v.x * unsigned_abs v.x + unsigned_abs v.y * unsigned_abs v.y + unsigned_abs v.z * unsigned_abs v.z ≤ l

edge_within : (v : Coordinates) (l : ℕ) → unsigned_abs (dot v v) ≤ l → IsWithin v l
edge_within v l h = record { sum = subst (λ (n : ℕ). n ≤ l) (squares_are v.x v.y v.z) h }

box_within : (u v w : Coordinates) (l s : ℕ) → IsWithin u l → IsWithin v l → IsWithin w l → l < (s + 1) * (s + 1) → unsigned_abs (dot (cross u v) w) ≤ 3 * (l * s)
box_within u v w l s u_in v_in w_in high =
    let x = minor_within u.y u.z v.y v.z l (omega arith) (omega arith) in
    let y = minor_within u.z u.x v.z v.x l (omega arith) (omega arith) in
    let z = minor_within u.x u.y v.x v.y l (omega arith) (omega arith) in
    sum_within ((cross u v).x *ℤ w.x) ((cross u v).y *ℤ w.y) ((cross u v).z *ℤ w.z) (l * s)
    (term_within (cross u v).x w.x (unsigned_abs w.y * unsigned_abs w.y + unsigned_abs w.z * unsigned_abs w.z) l s x (omega arith) high)
    (term_within (cross u v).y w.y (unsigned_abs w.x * unsigned_abs w.x + unsigned_abs w.z * unsigned_abs w.z) l s y (omega arith) high)
    (term_within (cross u v).z w.z (unsigned_abs w.x * unsigned_abs w.x + unsigned_abs w.y * unsigned_abs w.y) l s z (omega arith) high)

volume_within : (a b c d : Coordinates) (s : ℕ) → longest2 a b c d < (s + 1) * (s + 1) → unsigned_abs (vol6 a b c d) ≤ 3 * (longest2 a b c d * s)
unfolding longest2 len2 vol6
volume_within a b c d s high =
    box_within (minus b a) (minus c a) (minus d a) (longest2 a b c d) s (edge_within (minus b a) (longest2 a b c d) (omega arith)) (edge_within (minus c a) (longest2 a b c d) (omega arith)) (edge_within (minus d a) (longest2 a b c d) (omega arith)) high

-- the longest squared edge times its root is at least a third of six times the volume
pub volume_bound : (a b c d : Coordinates) (n l s : ℕ) → n ≡ unsigned_abs (vol6 a b c d) → l ≡ longest2 a b c d → l < (s + 1) * (s + 1) → n ≤ 3 * (l * s)
volume_bound a b c d n l s n_is l_is high =
    let square : longest2 a b c d < (s + 1) * (s + 1) = subst (λ (k : ℕ). k < (s + 1) * (s + 1)) l_is high in
    let bound : unsigned_abs (vol6 a b c d) ≤ 3 * (longest2 a b c d * s) = volume_within a b c d s square in
    rw (n_is, l_is) bound
