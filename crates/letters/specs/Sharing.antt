-- Places that parts share.
use Rattle.std.specs.Prelude.{ℕ, Bool, ◌&&◌, nat_le, length, List, Option, Some, None, if◌then◌else◌}
use Rattle.std.specs.Ordering.{is_lt}
use Rattle.ma_geom.specs.Coordinates.{Coordinates, place_cmp}

-- a place, and the parts that have it as a corner
pub record SharedPlace : Type 0 where
  pub place : Coordinates
  pub parts : List ℕ

-- whether there are as many parts as can share a place
abbrev pub are_sharers : List ℕ → Bool
are_sharers parts = nat_le 2 (length parts) && nat_le (length parts) 64

-- whether the one stands before the other in a list: at the lesser place
abbrev pub shared_before : SharedPlace → SharedPlace → Bool
shared_before s t = is_lt (place_cmp s.place t.place)

-- a place with its parts, if they are as many as can share one
abbrev pub shared_place : Coordinates → List ℕ → Option SharedPlace
shared_place place parts = if are_sharers parts then Some (record { place = place; parts = parts }) else None
