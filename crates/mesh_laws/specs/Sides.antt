-- Tetrahedra that share a face.
use Rattle.std.specs.Prelude.{ℕ, ◌≡◌, ◌≤◌, true, false, List, [], ◌∷◌}
use Rattle.std.specs.Cmp.Lexicographic.{slice_cmp}
use Rattle.std.specs.List.{AllByRecursion, AllPairs, count_by}
use Rattle.ma_geom.specs.Coordinates.{Coordinates, place_cmp}
use Rattle.ma_geom.specs.Lines.{is_flat}
use Rattle.ma_geom.specs.Rational.{Rational}
use Rattle.ma_geom.specs.Volume.{vol6}
use Rattle.ma_cells.specs.Ascending.{has}
use Rattle.ma_cells.specs.Faces.{faces_of}
use Rattle.ma_cells.specs.Tetrahedron.{Tetrahedron}
use Rattle.ma_cover.specs.Cover.{whole_cover}
use Rattle.ma_cover.specs.Inside.{are_alike, is_inside}
use Rattle.ma_cover.specs.OnFaces.{IsOffFaces}
use Rattle.ma_cover.specs.Sound.{LieOnBothSides}
use Rattle.mesh_laws.specs.Points.{NoneIsFlat, IsOffPlane}

-- that a point is within two tetrahedra, which are given by their corners, and off the planes of some triangles
pub record IsCommon (p : Rational) (s t : List Coordinates) (triangles : List (List Coordinates)) : Type 0 where
  pub first : is_inside p s ≡ true
  pub second : is_inside p t ≡ true
  pub off : AllByRecursion (IsOffPlane p) triangles

-- tetrahedra that share the face u v w and lie on one side of it have a common point, which can be had off any planes
abbrev pub OneSideHasCommonPoint : Type 0
OneSideHasCommonPoint = (u v w d e : Coordinates) (triangles : List (List Coordinates)) → are_alike (vol6 u v w d) (vol6 u v w e) ≡ true
    → (p : Rational) × IsCommon p (u ∷ v ∷ w ∷ d ∷ []) (u ∷ v ∷ w ∷ e ∷ []) triangles

-- a tetrahedron that isn't flat has a point within it
abbrev pub TetrahedronHasPoint : Type 0
TetrahedronHasPoint = (corners : List Coordinates) → is_flat corners ≡ false → (p : Rational) × (is_inside p corners ≡ true)

-- where no point off the closed faces is within two tetrahedra, any two lie on both sides of each face that they share
abbrev pub OnceLieOnBothSides : Type 0
OnceLieOnBothSides = (tets : List Tetrahedron) → NoneIsFlat tets → ((p : Rational) → IsOffFaces p tets → whole_cover p tets ≤ 1)
    → AllPairs (λ s t. LieOnBothSides s.corners t.corners) tets

-- how many tetrahedra have a face, in whatever regions
abbrev pub whole_holders : List Coordinates → List Tetrahedron → ℕ
whole_holders face tets = count_by (λ tet. has (slice_cmp place_cmp) face (faces_of tet.corners)) tets

-- where any two tetrahedra lie on both sides of each face that they share, no face is shared by three
abbrev pub NoFaceHasThree : Type 0
NoFaceHasThree = (tets : List Tetrahedron) → NoneIsFlat tets → AllPairs (λ s t. LieOnBothSides s.corners t.corners) tets
    → (face : List Coordinates) → whole_holders face tets ≤ 2
