-- Points that a spot can be.
use Rattle.std.specs.Prelude.{pos, ◌≤ℤ◌, ◌≤◌, ◌^◌, unsigned_abs}
use Rattle.ma_geom.specs.Rational.{Rational}

-- that the coordinates of p and what they are over are in range
pub record IsSpot (p : Rational) : Type 0 where
  pub x : unsigned_abs p.x ≤ 2 ^ 50
  pub y : unsigned_abs p.y ≤ 2 ^ 50
  pub z : unsigned_abs p.z ≤ 2 ^ 50
  pub positive : pos 1 ≤ℤ p.w
  pub most : p.w ≤ℤ pos (2 ^ 20)
