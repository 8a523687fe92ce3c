-- Points on closed triangles.
use Rattle.std.specs.Prelude.{ℤ, pos, ◌≡◌, ◌+ℤ◌, ◌*ℤ◌, ◌≤ℤ◌, ◌<ℤ◌, List, [], ◌∷◌}
use Rattle.std.specs.List.{AllByRecursion}
use Rattle.ma_geom.specs.Coordinates.{Coordinates}
use Rattle.ma_geom.specs.Rational.{Rational}
use Rattle.ma_cells.specs.Faces.{faces_of}
use Rattle.ma_cells.specs.Tetrahedron.{Tetrahedron}

-- that p lies on the closed triangle a b c: it is a mean of the corners, with the weights i / n, j / n and k / n, none of them negative
pub record IsOnTriangle (a b c : Coordinates) (p : Rational) : Type 0 where
  pub i : ℤ
  pub j : ℤ
  pub k : ℤ
  pub n : ℤ
  pub first : pos 0 ≤ℤ i
  pub second : pos 0 ≤ℤ j
  pub third : pos 0 ≤ℤ k
  pub positive : pos 0 <ℤ n
  pub w : n *ℤ p.w ≡ (i +ℤ j) +ℤ k
  pub x : n *ℤ p.x ≡ ((i *ℤ a.x) +ℤ (j *ℤ b.x)) +ℤ (k *ℤ c.x)
  pub y : n *ℤ p.y ≡ ((i *ℤ a.y) +ℤ (j *ℤ b.y)) +ℤ (k *ℤ c.y)
  pub z : n *ℤ p.z ≡ ((i *ℤ a.z) +ℤ (j *ℤ b.z)) +ℤ (k *ℤ c.z)

-- that p isn't on the closed triangle a b c
abbrev pub IsOffTriangle : Coordinates → Coordinates → Coordinates → Rational → Type 0
IsOffTriangle a b c p = IsOnTriangle a b c p → ⊥

-- that p isn't on this closed face, which is given by its three corners
abbrev pub IsOffFace : Rational → List Coordinates → Type 0
IsOffFace p (a ∷ b ∷ c ∷ []) = IsOffTriangle a b c p
IsOffFace p _ = Unit {0}

-- that p is on none of the closed faces of the tetrahedron with these corners
abbrev pub IsOffFacesOf : Rational → List Coordinates → Type 0
IsOffFacesOf p corners = AllByRecursion (IsOffFace p) (faces_of corners)

-- that p is on no closed face of any of these tetrahedra
abbrev pub IsOffFaces : Rational → List Tetrahedron → Type 0
IsOffFaces p tets = AllByRecursion (λ tet. IsOffFacesOf p tet.corners) tets
