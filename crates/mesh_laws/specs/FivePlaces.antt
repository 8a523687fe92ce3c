-- What the five tetrahedra of five places enclose.
use Rattle.std.specs.Prelude.{◌≡◌, ℤ, pos, ◌+ℤ◌, ◌-ℤ◌, [], ◌∷◌, if◌then◌else◌}
use Rattle.std.specs.Int.{int_signum}
use Rattle.std.specs.List.{AllByRecursion}
use Rattle.ma_geom.specs.Coordinates.{Coordinates}
use Rattle.ma_geom.specs.Rational.{Rational}
use Rattle.ma_geom.specs.Volume.{vol6}
use Rattle.ma_cells.specs.Faces.{faces_of}
use Rattle.ma_cover.specs.Inside.{is_inside}
use Rattle.mesh_laws.specs.Points.{IsOffPlane}

-- 1 where a tetrahedron of positive volume has the point within it, -1 where one of negative volume has, else 0
abbrev pub enclosed : Rational → Coordinates → Coordinates → Coordinates → Coordinates → ℤ
enclosed p a b c d = if is_inside p (a ∷ b ∷ c ∷ d ∷ []) then int_signum (vol6 a b c d) else pos 0

-- the five tetrahedra of five places, taken with one sign and the other in turn, enclose a point as often the one way as the other, off the planes of the ten triangles.
-- So a tetrahedron encloses what those from any further place over its faces do
abbrev pub FivePlacesCancel : Type 0
FivePlacesCancel = (p : Rational) (a b c d e : Coordinates) → AllByRecursion (IsOffPlane p) (faces_of (a ∷ b ∷ c ∷ d ∷ e ∷ []))
    → (((enclosed p b c d e -ℤ enclosed p a c d e) +ℤ enclosed p a b d e) -ℤ enclosed p a b c e) +ℤ enclosed p a b c d ≡ pos 0
