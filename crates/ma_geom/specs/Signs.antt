-- Signs, and the side of a triangle on which a place lies.
use Rattle.std.specs.Prelude.{zero, suc, ℤ, pos, negsuc, Bool, true, false, List, [], ◌∷◌}
use Rattle.ma_geom.specs.Coordinates.{Coordinates}
use Rattle.ma_geom.specs.Volume.{vol6}
use Rattle.ma_geom.specs.declared.signs.Sign.{Sign}
use Rattle.ma_geom.specs.declared.signs.Sign.TheVariants.{Minus, Zero, Plus}

abbrev pub sign_of : ℤ → Sign
sign_of (pos zero) = Zero
sign_of (pos (suc n)) = Plus
sign_of (negsuc n) = Minus

abbrev pub same_sign : Sign → Sign → Bool
same_sign Minus Minus = true
same_sign Zero Zero = true
same_sign Plus Plus = true
same_sign _ _ = false

-- the side of the triangle a b c on which p lies: zero where p lies in its plane, or where these aren't three places
abbrev pub side_of : List Coordinates → Coordinates → Sign
side_of (a ∷ b ∷ c ∷ []) p = sign_of (vol6 a b c p)
side_of _ p = Zero
