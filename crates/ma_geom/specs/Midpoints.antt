-- The place halfway between two places.
use Rattle.std.specs.Prelude.{ℤ, pos, ◌+ℤ◌, int_div, int_rem, if◌then◌else◌, Option, Some, None}
use Rattle.std.specs.Ordering.{int_eq}
use Rattle.ma_geom.specs.Coordinates.{Coordinates}

-- the half of an even number
unfoldable pub halved : ℤ → Option ℤ
halved n = if int_eq (int_rem n (pos 2)) (pos 0) then Some (int_div n (pos 2)) else None

-- the place with these coordinates, if there are all three
abbrev pub whole_place : Option ℤ → Option ℤ → Option ℤ → Option Coordinates
whole_place (Some x) (Some y) (Some z) = Some (record { x = x; y = y; z = z })
whole_place _ _ _ = None

-- none where a sum of two coordinates is odd
abbrev pub midpoint : Coordinates → Coordinates → Option Coordinates
midpoint a b = whole_place (halved (a.x +ℤ b.x)) (halved (a.y +ℤ b.y)) (halved (a.z +ℤ b.z))
