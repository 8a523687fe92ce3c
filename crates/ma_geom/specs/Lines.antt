-- Which places lie in one plane or on one line.
use Rattle.std.specs.Prelude.{pos, Bool, true, ◌&&◌, int_lt, List, [], ◌∷◌}
use Rattle.std.specs.Ordering.{int_eq}
use Rattle.ma_geom.specs.Coordinates.{Coordinates}
use Rattle.ma_geom.specs.Volume.{cross, dot, minus, vol6}

-- a vector at right angles to the triangle a b c, by which a, b and c turn to the left
unfoldable pub normal : Coordinates → Coordinates → Coordinates → Coordinates
normal a b c = cross (minus b a) (minus c a)

abbrev pub is_zero : Coordinates → Bool
is_zero v = int_eq v.x (pos 0) && int_eq v.y (pos 0) && int_eq v.z (pos 0)

-- whether the four places lie in one plane
abbrev pub coplanar : Coordinates → Coordinates → Coordinates → Coordinates → Bool
coplanar a b c d = int_eq (vol6 a b c d) (pos 0)

-- whether the three places lie on one line
abbrev pub collinear : Coordinates → Coordinates → Coordinates → Bool
collinear a b c = is_zero (normal a b c)

-- whether a lies strictly between c and v on one line: from a, the vectors to both point in opposite directions
abbrev pub between : Coordinates → Coordinates → Coordinates → Bool
between c a v = collinear c a v && int_lt (dot (minus c a) (minus v a)) (pos 0)

-- whether these are no corners of a tetrahedron: they aren't four, or lie in one plane
abbrev pub is_flat : List Coordinates → Bool
is_flat (a ∷ b ∷ c ∷ d ∷ []) = coplanar a b c d
is_flat _ = true
