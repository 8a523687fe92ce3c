-- Where a point lies among tetrahedra.
use Rattle.std.specs.Prelude.{ℕ, ◌≡◌, ◌+◌, drop, List, [], ◌∷◌, Option, None, Some}
use Rattle.std.specs.List.{Any, position}
use Rattle.std.specs.Option.{option_map}
use Rattle.ma_geom.specs.Coordinates.{Coordinates}
use Rattle.ma_geom.specs.Rational.{Rational}
use Rattle.ma_cells.specs.Faces.{faces_of}
use Rattle.ma_cells.specs.Tetrahedron.{Tetrahedron}
use Rattle.ma_cover.specs.Inside.{is_inside}
use Rattle.ma_cover.specs.OnFaces.{IsOffFaces, IsOnTriangle}
use Rattle.ma_cover.specs.declared.locations.Found.{Found}
use Rattle.ma_cover.specs.declared.locations.Found.TheVariants.{Face, Outside, One, Many}

-- that p lies on this closed face, which is given by its three corners
abbrev pub IsOnFace : Rational → List Coordinates → Type 0
IsOnFace p (a ∷ b ∷ c ∷ []) = IsOnTriangle a b c p
IsOnFace p _ = ⊥

-- that p lies on a closed face of the tetrahedron with these corners
abbrev pub IsOnFaceOf : Rational → List Coordinates → Type 0
IsOnFaceOf p corners = Any (IsOnFace p) (faces_of corners)

-- the index, counted from 0, of the first tetrahedron that has p within it, of those with the index n or a greater one
abbrev pub first_around : ℕ → Rational → List Tetrahedron → Option ℕ
first_around n p tets = option_map (λ k. n + k) (position (λ tet. is_inside p tet.corners) (drop n tets))

-- what is found of p: that it lies on a closed face of one of the tetrahedra; else that none has it within it, that only the one with the index i has, or that several have, and that those with the indices i and j are the first two
abbrev pub IsLocated : List Tetrahedron → Rational → Found → Type 0
IsLocated tets p Face = Any (λ tet. IsOnFaceOf p tet.corners) tets
IsLocated tets p Outside = IsOffFaces p tets × (first_around 0 p tets ≡ None)
IsLocated tets p (One i) = IsOffFaces p tets × (first_around 0 p tets ≡ Some i) × (first_around (i + 1) p tets ≡ None)
IsLocated tets p (Many i j) = IsOffFaces p tets × (first_around 0 p tets ≡ Some i) × (first_around (i + 1) p tets ≡ Some j)
