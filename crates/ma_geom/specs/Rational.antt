-- Points between places, as homogeneous coordinates, and on which side of a triangle they are.
use Rattle.std.specs.Prelude.{ℤ, pos, ◌≡◌, ◌+ℤ◌, ◌-ℤ◌, ◌*ℤ◌, ◌<ℤ◌}
use Rattle.ma_geom.specs.Coordinates.{Coordinates}
use Rattle.ma_geom.specs.Volume.{minus, cross, dot}

-- the point (x / w, y / w, z / w), where w is positive
pub record Rational : Type 0 where
  pub x : ℤ
  pub y : ℤ
  pub z : ℤ
  pub w : ℤ

-- what stands for a point
pub record IsPoint (p : Rational) : Type 0 where
  pub positive : pos 0 <ℤ p.w

-- a place as a point
abbrev pub point_at : Coordinates → Rational
point_at a = record { x = a.x; y = a.y; z = a.z; w = pos 1 }

-- that the place m is halfway between a and b
pub record IsMiddle (m a b : Coordinates) : Type 0 where
  pub x : m.x +ℤ m.x ≡ a.x +ℤ b.x
  pub y : m.y +ℤ m.y ≡ a.y +ℤ b.y
  pub z : m.z +ℤ m.z ≡ a.z +ℤ b.z

-- w times the vector from a to the point
abbrev pub offset : Rational → Coordinates → Coordinates
offset p a = record { x = p.x -ℤ (p.w *ℤ a.x); y = p.y -ℤ (p.w *ℤ a.y); z = p.z -ℤ (p.w *ℤ a.z) }

-- w times the volume, six times and signed, of the tetrahedron a b c and the point: zero in the triangle's plane, and of one sign on each side of it
unfoldable pub side : Coordinates → Coordinates → Coordinates → Rational → ℤ
side a b c p = dot (cross (minus b a) (minus c a)) (offset p a)

-- the share of the corner a in the point, taken to the plane of the triangle a b c: negative where the edge from b to c is between them. The shares of the three corners sum to w times the square of twice the triangle's area
unfoldable pub share : Coordinates → Coordinates → Coordinates → Rational → ℤ
share a b c p = dot (cross (minus b a) (minus c a)) (cross (minus c b) (offset p b))
