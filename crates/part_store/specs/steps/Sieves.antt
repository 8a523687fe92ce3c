-- Flags by which most places that are not in a set are told. No public contract names these.
use Rattle.std.specs.Prelude.{ℕ, ◌+◌, ◌-◌, ◌*◌, ◌/◌, ◌%◌, ◌^◌, Bool, true, false, List, [], ◌∷◌, bit_and, get_or, length, slice_set, unsigned_abs}
use Rattle.ma_geom.specs.Coordinates.{Coordinates}

-- a number of 64 bits that mixes the coordinates
abbrev pub mixed : Coordinates → ℕ
mixed p = ((unsigned_abs p.x * 11400714819323198485 % 2 ^ 64 + unsigned_abs p.y * 14029467366897019727 % 2 ^ 64) % 2 ^ 64 + unsigned_abs p.z * 1609587929392839161 % 2 ^ 64) % 2 ^ 64

-- where a place has its flag among so many
abbrev pub spot : Coordinates → ℕ → ℕ
spot p count = bit_and (mixed p / 2 ^ 32) (count - 1)

-- whether the flag of a place is up
abbrev pub passes : List Bool → Coordinates → Bool
passes flags p = get_or flags (spot p (length flags)) false

-- the flags with those of these places up too
abbrev pub raised : List Coordinates → List Bool → List Bool
raised [] flags = flags
raised (p ∷ ps) flags = raised ps (slice_set flags (spot p (length flags)) true)
