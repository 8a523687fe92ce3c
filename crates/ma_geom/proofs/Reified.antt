-- The vectors, the volume and the side of a triangle once more, as expressions: their values compute to those of specs/.
use Rattle.std.proofs.Common.{ℕ, ◌+◌, ◌*◌, List, [], ◌∷◌}
use Rattle.std.specs.Prelude.{ℤ, pos}
use Rattle.ma_geom.specs.Coordinates.{Coordinates}
use Rattle.ma_geom.specs.Rational.{Rational}
use Rattle.ma_geom.proofs.Ring.{Expr, var, con, ◌⊕◌, ◌⊖◌, ◌⊗◌, entry}

-- of Coordinates
pub record Triple : Type 0 where
  pub x : Expr
  pub y : Expr
  pub z : Expr

-- of Rational
pub record Quadruple : Type 0 where
  pub x : Expr
  pub y : Expr
  pub z : Expr
  pub w : Expr

-- ---- the variables: those of a point, if there is one, are 0 to 3, and those of the i-th place begin at 3 * i + 4
abbrev pub coordinates : List Coordinates → List ℤ
coordinates [] = []
coordinates (p ∷ ps) = p.x ∷ p.y ∷ p.z ∷ coordinates ps

abbrev pub places : List Coordinates → ℕ → ℤ
places ps = entry (pos 0 ∷ pos 0 ∷ pos 0 ∷ pos 0 ∷ coordinates ps)

abbrev pub point_and_places : Rational → List Coordinates → ℕ → ℤ
point_and_places p ps = entry (p.x ∷ p.y ∷ p.z ∷ p.w ∷ coordinates ps)

abbrev pub place : ℕ → Triple
place i = record { x = var (3 * i + 4); y = var (3 * i + 5); z = var (3 * i + 6) }

abbrev pub point : Quadruple
point = record { x = var 0; y = var 1; z = var 2; w = var 3 }

-- ---- the definitions
abbrev pub minus' : Triple → Triple → Triple
minus' a b = record { x = a.x ⊖ b.x; y = a.y ⊖ b.y; z = a.z ⊖ b.z }

abbrev pub cross' : Triple → Triple → Triple
cross' u v = record {
  x = (u.y ⊗ v.z) ⊖ (u.z ⊗ v.y);
  y = (u.z ⊗ v.x) ⊖ (u.x ⊗ v.z);
  z = (u.x ⊗ v.y) ⊖ (u.y ⊗ v.x);
}

abbrev pub dot' : Triple → Triple → Expr
dot' u v = ((u.x ⊗ v.x) ⊕ (u.y ⊗ v.y)) ⊕ (u.z ⊗ v.z)

abbrev pub vol6' : Triple → Triple → Triple → Triple → Expr
vol6' a b c d = dot' (cross' (minus' b a) (minus' c a)) (minus' d a)

abbrev pub point_at' : Triple → Quadruple
point_at' a = record { x = a.x; y = a.y; z = a.z; w = con (pos 1) }

abbrev pub offset' : Quadruple → Triple → Triple
offset' p a = record { x = p.x ⊖ (p.w ⊗ a.x); y = p.y ⊖ (p.w ⊗ a.y); z = p.z ⊖ (p.w ⊗ a.z) }

abbrev pub side' : Triple → Triple → Triple → Quadruple → Expr
side' a b c p = dot' (cross' (minus' b a) (minus' c a)) (offset' p a)

abbrev pub share' : Triple → Triple → Triple → Quadruple → Expr
share' a b c p = dot' (cross' (minus' b a) (minus' c a)) (cross' (minus' c b) (offset' p b))
