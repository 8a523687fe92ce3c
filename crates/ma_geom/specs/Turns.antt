-- The way in which three places turn, seen along each axis.
use Rattle.std.specs.Prelude.{Bool, not, ◌&&◌, List, [], ◌∷◌}
use Rattle.ma_geom.specs.Coordinates.{Coordinates}
use Rattle.ma_geom.specs.Lines.{normal}
use Rattle.ma_geom.specs.Signs.{same_sign, sign_of}
use Rattle.ma_geom.specs.declared.signs.Sign.{Sign}
use Rattle.ma_geom.specs.declared.signs.Sign.TheVariants.{Zero}

-- the signs of the components of a triangle's normal
pub record Turn : Type 0 where
  pub x : Sign
  pub y : Sign
  pub z : Sign

-- all zero where the places lie on one line, or aren't three
abbrev pub turn_of : List Coordinates → Turn
turn_of (a ∷ b ∷ c ∷ []) = record { x = sign_of (normal a b c).x; y = sign_of (normal a b c).y; z = sign_of (normal a b c).z }
turn_of _ = record { x = Zero; y = Zero; z = Zero }

-- what three places on one line have
abbrev pub is_no_turn : Turn → Bool
is_no_turn t = same_sign t.x Zero && same_sign t.y Zero && same_sign t.z Zero

-- whether two triangles turn the same way: all three signs are equal, and not all are zero
abbrev pub same_turn : List Coordinates → List Coordinates → Bool
same_turn t u =
    same_sign (turn_of t).x (turn_of u).x && same_sign (turn_of t).y (turn_of u).y && same_sign (turn_of t).z (turn_of u).z && not (is_no_turn (turn_of t))
