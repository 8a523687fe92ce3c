-- The home of a place: the part that hears which parts have it.
use Rattle.std.specs.Prelude.{ℕ, ◌^◌, pos, ◌+ℤ◌, ◌*ℤ◌, int_div, unsigned_abs}
use Rattle.std.specs.Int.{int_rem_euclid}
use Rattle.ma_geom.specs.Coordinates.{Coordinates}

-- (x + 3y + 5z) / 2^j modulo the number of parts, never negative
unfoldable pub home_of : (j parts : ℕ) → Coordinates → ℕ
home_of j parts p = unsigned_abs (int_rem_euclid (int_div ((p.x +ℤ pos 3 *ℤ p.y) +ℤ pos 5 *ℤ p.z) (pos (2 ^ j))) (pos parts))
