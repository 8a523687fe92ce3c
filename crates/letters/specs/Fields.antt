-- Grammars of the fields of letters.
use Rattle.std.specs.Prelude.{ℕ, ℤ, pos, negsuc, ◌^◌, Bool, ◌&&◌, nat_lt, nat_le, unsigned_abs}
use Rattle.std.specs.Int.{w32, cast_signed, cast_unsigned}
use Rattle.std.specs.Ordering.{is_lt, nat_cmp}
use Rattle.ma_geom.specs.Coordinates.{Coordinates, limit, place_cmp}
use Rattle.letters.specs.Grammar.{Grammar, number, renamed, stands_for, tested, ◌then◌}

-- whether a number is one of 32 bits with a sign
abbrev pub is_signed : ℤ → Bool
is_signed (pos n) = nat_lt n (2 ^ 31)
is_signed (negsuc n) = nat_lt n (2 ^ 31)

-- a number with a sign, in four bytes as two's complement
abbrev pub signed : Grammar ℤ
signed = stands_for is_signed (cast_signed w32) (cast_unsigned w32) (number 4)

abbrev pub is_coordinate : ℤ → Bool
is_coordinate c = nat_le (unsigned_abs c) limit

abbrev pub coordinate : Grammar ℤ
coordinate = tested is_coordinate signed

abbrev pub place : Grammar Coordinates
place = renamed (λ c. record { x = c.0; y = c.1.0; z = c.1.1 }) (λ p. (p.x, (p.y, p.z))) (coordinate then coordinate then coordinate)

abbrev pub place_before : Coordinates → Coordinates → Bool
place_before p q = is_lt (place_cmp p q)

abbrev pub part_before : ℕ → ℕ → Bool
part_before p q = is_lt (nat_cmp p q)

-- a number of at least low and at most high, in a byte
abbrev pub between : ℕ → ℕ → Grammar ℕ
between low high = tested (λ n. nat_le low n && nat_le n high) (number 1)
