-- The quality of a tetrahedron: how large its volume is for its longest edge.
use Rattle.std.specs.Prelude.{ℕ, zero, suc, ◌*◌, ◌/◌, ◌^◌, max, nat_le, unsigned_abs, if◌then◌else◌, List, [], ◌∷◌}
use Rattle.ma_geom.specs.Coordinates.{Coordinates}
use Rattle.ma_geom.specs.Lengths.{len2}
use Rattle.ma_geom.specs.Volume.{vol6}

-- the greatest s up to a limit whose square is at most n
abbrev pub root_up_to : ℕ → ℕ → ℕ
root_up_to zero n = zero
root_up_to (suc s) n = if nat_le (suc s * suc s) n then suc s else root_up_to s n

-- the square root, rounded down: the greatest s whose square is at most n
unfoldable pub root : ℕ → ℕ
root n = root_up_to n n

-- the squared length of an edge
abbrev pub edge2 : Coordinates → Coordinates → ℕ
edge2 a b = unsigned_abs (len2 a b)

-- the greatest squared length of the six edges
unfoldable pub longest2 : Coordinates → Coordinates → Coordinates → Coordinates → ℕ
longest2 a b c d = max (max (max (max (max (edge2 a b) (edge2 a c)) (edge2 a d)) (edge2 b c)) (edge2 b d)) (edge2 c d)

-- six times the volume over the cube of the longest edge, in parts of 2^-30; the cube is the square of the edge times its length rounded down
unfoldable pub quality_of : Coordinates → Coordinates → Coordinates → Coordinates → ℕ
quality_of a b c d = (2 ^ 30 * unsigned_abs (vol6 a b c d)) / (longest2 a b c d * root (longest2 a b c d))

-- the quality of a tetrahedron by its corners: zero where they aren't four
abbrev pub quality : List Coordinates → ℕ
quality (a ∷ b ∷ c ∷ d ∷ []) = quality_of a b c d
quality _ = 0
