-- The size that edges are to have, by place.
use Rattle.std.specs.Prelude.{ℕ, ◌*◌, ◌^◌, Bool, ◌&&◌, nat_le, ℤ, pos, ◌*ℤ◌, int_lt, int_le, List, [], ◌∷◌, map, filter, min}
use Rattle.ma_geom.specs.Coordinates.{Coordinates}
use Rattle.ma_geom.specs.Lengths.{len2}

-- a box of places, with its least and its greatest corner, and a size
pub record BoxedSize : Type 0 where
  pub low : Coordinates
  pub high : Coordinates
  pub size : ℕ

-- a size for all places, and boxes of places with sizes of their own
pub record Field : Type 0 where
  pub default : ℕ
  pub boxes : List BoxedSize

-- a place and the size there
pub record PlaceAndSize : Type 0 where
  pub place : Coordinates
  pub size : ℕ

abbrev pub greatest_size : ℕ
greatest_size = 2 ^ 30

-- a size is from 1 to 2^30
abbrev pub is_size : ℕ → Bool
is_size n = nat_le 1 n && nat_le n greatest_size

-- whether a coordinate is in the extent of a box along its axis
abbrev pub is_in_extent : ℤ → ℤ → ℤ → Bool
is_in_extent low high c = int_le low c && int_le c high

-- where a coordinate of the low corner is greater than that of the high one, the box holds no place
abbrev pub holds : BoxedSize → Coordinates → Bool
holds b p = is_in_extent b.low.x b.high.x p.x && (is_in_extent b.low.y b.high.y p.y && is_in_extent b.low.z b.high.z p.z)

-- the last of these, if there is one
abbrev pub last_or : ℕ → List ℕ → ℕ
last_or n [] = n
last_or n (size ∷ sizes) = last_or size sizes

-- the sizes of those boxes that hold the place
abbrev pub sizes_at : List BoxedSize → Coordinates → List ℕ
sizes_at boxes p = map (λ b. b.size) (filter (λ b. holds b p) boxes)

-- the size of the last box that holds the place, else the default
abbrev pub size_at : Field → Coordinates → ℕ
size_at field p = last_or field.default (sizes_at field.boxes p)

-- the size for an edge: the lesser one of its two ends
abbrev pub size_along : Field → Coordinates → Coordinates → ℕ
size_along field a b = min (size_at field a) (size_at field b)

-- longer than three halves of the size
unfoldable pub is_long : Field → Coordinates → Coordinates → Bool
is_long field a b = let h = size_along field a b in int_lt (pos (9 * (h * h))) (pos 4 *ℤ len2 a b)

-- shorter than half of the size
unfoldable pub is_short : Field → Coordinates → Coordinates → Bool
is_short field a b = let h = size_along field a b in int_lt (pos 4 *ℤ len2 a b) (pos (h * h))
