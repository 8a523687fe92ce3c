-- Steps of the code and no promise: tests by which a point lies in a closed tetrahedron, and on a closed face of it.
use Rattle.std.specs.Prelude.{pos, Bool, false, not, ◌&&◌, ◌||◌, List, [], ◌∷◌}
use Rattle.std.specs.Ordering.{int_eq}
use Rattle.ma_geom.specs.Coordinates.{Coordinates}
use Rattle.ma_geom.specs.Rational.{Rational, side}
use Rattle.ma_cover.specs.Inside.{is_beside, is_inside}

-- whether p lies on the side of q of the plane of a, b and c, or in this plane
abbrev pub is_not_across : Coordinates → Coordinates → Coordinates → Coordinates → Rational → Bool
is_not_across a b c q p = int_eq (side a b c p) (pos 0) || is_beside a b c q p

-- whether p lies in the closed tetrahedron with these corners
abbrev pub is_in_closed : Rational → List Coordinates → Bool
is_in_closed p (a ∷ b ∷ c ∷ d ∷ []) = is_not_across b c d a p && is_not_across a c d b p && is_not_across a b d c p && is_not_across a b c d p
is_in_closed p _ = false

-- whether it lies there and not within it, so on a face
abbrev pub is_on_face : Rational → List Coordinates → Bool
is_on_face p corners = is_in_closed p corners && not (is_inside p corners)
