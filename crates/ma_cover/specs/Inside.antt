-- Points strictly within a tetrahedron.
use Rattle.std.specs.Prelude.{ℤ, pos, Bool, false, ◌&&◌, ◌||◌, int_lt, List, [], ◌∷◌}
use Rattle.ma_geom.specs.Coordinates.{Coordinates}
use Rattle.ma_geom.specs.Rational.{Rational, side}
use Rattle.ma_geom.specs.Volume.{vol6}

-- whether both are positive or both negative
abbrev pub are_alike : ℤ → ℤ → Bool
are_alike x y = (int_lt (pos 0) x && int_lt (pos 0) y) || (int_lt x (pos 0) && int_lt y (pos 0))

-- whether p lies strictly on the side of q of the plane of a, b and c
abbrev pub is_beside : Coordinates → Coordinates → Coordinates → Coordinates → Rational → Bool
is_beside a b c q p = are_alike (vol6 a b c q) (side a b c p)

-- whether p lies within the tetrahedron with these corners: for each corner, strictly on its side of the face across from it. Nowhere where they aren't four
abbrev pub is_inside : Rational → List Coordinates → Bool
is_inside p (a ∷ b ∷ c ∷ d ∷ []) = is_beside b c d a p && is_beside a c d b p && is_beside a b d c p && is_beside a b c d p
is_inside p _ = false
