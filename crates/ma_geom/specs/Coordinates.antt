-- Places as triples of whole numbers without bound, and their order.
use Rattle.std.specs.Prelude.{ℕ, ℤ, ◌≤◌, ◌^◌, unsigned_abs}
use Rattle.std.specs.declared.cmp.Ordering.{Ordering}
use Rattle.std.specs.Ordering.{int_cmp, ordering_then}

-- a place, or a vector between two places
pub record Coordinates : Type 0 where
  pub x : ℤ
  pub y : ℤ
  pub z : ℤ

-- the greatest absolute value of a coordinate
abbrev pub limit : ℕ
limit = 2 ^ 30

-- what a place may have as coordinates
pub record IsInRange (p : Coordinates) : Type 0 where
  pub x : unsigned_abs p.x ≤ limit
  pub y : unsigned_abs p.y ≤ limit
  pub z : unsigned_abs p.z ≤ limit

-- by x, then y, then z
abbrev pub place_cmp : Coordinates → Coordinates → Ordering
place_cmp p q = ordering_then (int_cmp p.x q.x) (ordering_then (int_cmp p.y q.y) (int_cmp p.z q.z))
