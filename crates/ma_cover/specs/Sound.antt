-- Meshes whose tetrahedra fit together.
use Rattle.std.specs.Prelude.{ℕ, ◌≡◌, ◌≤◌, ◌⊎◌, true, ◌&&◌, ℤ, neg_ℤ, List, [], ◌∷◌, IsPermutation}
use Rattle.std.specs.Cmp.Lexicographic.{slice_cmp}
use Rattle.std.specs.List.{AllPairs, count_by, list_all}
use Rattle.std.specs.Ordering.{int_eq}
use Rattle.ma_geom.specs.Coordinates.{Coordinates, place_cmp}
use Rattle.ma_geom.specs.Rational.{Rational}
use Rattle.ma_geom.specs.Volume.{vol6}
use Rattle.ma_cells.specs.Ascending.{has}
use Rattle.ma_cells.specs.Cells.{CellMark}
use Rattle.ma_cells.specs.Faces.{faces_of}
use Rattle.ma_cells.specs.Incidence.{is_marked, is_on}
use Rattle.ma_cells.specs.Tetrahedron.{Tetrahedron}
use Rattle.ma_cover.specs.Cover.{whole_cover}
use Rattle.ma_cover.specs.Inside.{are_alike}
use Rattle.ma_cover.specs.OnFaces.{IsOffFaces}

-- that two tetrahedra, given by their corners, lie on different sides of each face u v w that they share, where d and e are their fourth corners
abbrev pub LieOnBothSides : List Coordinates → List Coordinates → Type 0
LieOnBothSides s t = (u v w d e : Coordinates) → IsPermutation (u ∷ v ∷ w ∷ d ∷ []) s → IsPermutation (u ∷ v ∷ w ∷ e ∷ []) t
    → are_alike (vol6 u v w d) (neg_ℤ (vol6 u v w e)) ≡ true

-- how many tetrahedra with the region (phys, elem) have a face
abbrev pub holders : (phys elem : ℤ) → List Coordinates → List Tetrahedron → ℕ
holders phys elem face tets = count_by (λ tet. (int_eq tet.phys phys && int_eq tet.elem elem) && has (slice_cmp place_cmp) face (faces_of tet.corners)) tets

-- that a face is had by none of so many tetrahedra, by two, or by one and is marked
abbrev pub IsPairedOrMarked : ℕ → List Coordinates → List CellMark → Type 0
IsPairedOrMarked count face marks = (count ≡ 0) ⊎ ((count ≡ 2) ⊎ ((count ≡ 1) × (is_marked marks face ≡ true)))

-- that each face of a tetrahedron is a face of exactly one other of its region, which lies on the other side of it, or is marked and no two lie on one side of it,
-- and that each marked cell is a cell of a tetrahedron.
-- By `sides` of those that have a face, in whatever regions, no two lie on one side of it. By `faces` those of one region are two, or one and it is marked
pub record IsConforming (tets : List Tetrahedron) (marks : List CellMark) : Type 0 where
  pub sides : AllPairs (λ s t. LieOnBothSides s.corners t.corners) tets
  pub faces : (phys elem : ℤ) (face : List Coordinates) → IsPairedOrMarked (holders phys elem face tets) face marks
  pub on_cells : list_all (λ mark. is_on tets mark.cell) marks ≡ true

-- that it is conforming, and no rational point off its closed faces is within two of its tetrahedra
pub record IsSound (tets : List Tetrahedron) (marks : List CellMark) : Type 0 where
  pub conforming : IsConforming tets marks
  pub once : (p : Rational) → IsOffFaces p tets → whole_cover p tets ≤ 1
