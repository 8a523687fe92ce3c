-- Squared distances.
use Rattle.std.specs.Prelude.{ℤ}
use Rattle.ma_geom.specs.Coordinates.{Coordinates}
use Rattle.ma_geom.specs.Volume.{dot, minus}

-- the squared distance of a and b
unfoldable pub len2 : Coordinates → Coordinates → ℤ
len2 a b = dot (minus b a) (minus b a)
