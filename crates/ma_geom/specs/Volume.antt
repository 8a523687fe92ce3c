-- The signed volume of a tetrahedron.
use Rattle.std.specs.Prelude.{ℤ, ◌+ℤ◌, ◌-ℤ◌, ◌*ℤ◌}
use Rattle.ma_geom.specs.Coordinates.{Coordinates}

-- the vector from b to a
abbrev pub minus : Coordinates → Coordinates → Coordinates
minus a b = record { x = a.x -ℤ b.x; y = a.y -ℤ b.y; z = a.z -ℤ b.z }

abbrev pub cross : Coordinates → Coordinates → Coordinates
cross u v = record {
  x = (u.y *ℤ v.z) -ℤ (u.z *ℤ v.y);
  y = (u.z *ℤ v.x) -ℤ (u.x *ℤ v.z);
  z = (u.x *ℤ v.y) -ℤ (u.y *ℤ v.x);
}

abbrev pub dot : Coordinates → Coordinates → ℤ
dot u v = ((u.x *ℤ v.x) +ℤ (u.y *ℤ v.y)) +ℤ (u.z *ℤ v.z)

-- six times the signed volume of the tetrahedron a b c d: positive where d is on the side of the triangle a b c from which a, b and c turn to the left
unfoldable pub vol6 : Coordinates → Coordinates → Coordinates → Coordinates → ℤ
vol6 a b c d = dot (cross (minus b a) (minus c a)) (minus d a)
