-- What holds of conforming and sound meshes, and how a mesh is told to be one.
use Rattle.std.specs.Prelude.{ℤ, ◌≡◌, ◌≤◌, true, List}
use Rattle.std.specs.List.{list_all}
use Rattle.ma_geom.specs.Coordinates.{Coordinates}
use Rattle.ma_geom.specs.Rational.{Rational}
use Rattle.ma_cells.specs.Ascending.{ascending_of}
use Rattle.ma_cells.specs.Cells.{CellMark, mark_cmp}
use Rattle.ma_cells.specs.Incidence.{is_marked, is_on}
use Rattle.ma_cells.specs.Meshes.{are_listed_once}
use Rattle.ma_cells.specs.Tetrahedron.{Tetrahedron, tet_cmp}
use Rattle.ma_cover.specs.Cover.{whole_cover}
use Rattle.ma_cover.specs.OnFaces.{IsOffFaces}
use Rattle.ma_cover.specs.Sound.{IsConforming, IsSound, holders}
use Rattle.mesh_laws.specs.Covers.{CoverTheSame}
use Rattle.mesh_laws.specs.Parity.{is_odd}
use Rattle.mesh_laws.specs.Points.{NoneIsFlat}
use Rattle.mesh_laws.specs.Sides.{whole_holders}

-- no two tetrahedra of a conforming mesh have the same corners
abbrev pub ConformingIsListedOnce : Type 0
ConformingIsListedOnce = (tets : List Tetrahedron) (marks : List CellMark) → IsConforming tets marks → NoneIsFlat tets → are_listed_once tets ≡ true

-- at most two of its tetrahedra have a face, in whatever regions
abbrev pub ConformingFaceHasTwo : Type 0
ConformingFaceHasTwo = (tets : List Tetrahedron) (marks : List CellMark) → IsConforming tets marks → NoneIsFlat tets → (face : List Coordinates) → whole_holders face tets ≤ 2

-- that each face that an odd number of the tetrahedra of a region have is marked
abbrev pub OddAreMarked : List Tetrahedron → List CellMark → Type 0
OddAreMarked tets marks = (phys elem : ℤ) (face : List Coordinates) → is_odd (holders phys elem face tets) ≡ true → is_marked marks face ≡ true

abbrev pub ConformingOddAreMarked : Type 0
ConformingOddAreMarked = (tets : List Tetrahedron) (marks : List CellMark) → IsConforming tets marks → OddAreMarked tets marks

-- no point is within two tetrahedra of a sound mesh, on closed faces either
abbrev pub SoundCoversOnce : Type 0
SoundCoversOnce = (tets : List Tetrahedron) (marks : List CellMark) → IsSound tets marks → NoneIsFlat tets → (p : Rational) → whole_cover p tets ≤ 1

-- it is sound as a set of tetrahedra with a set of marks
abbrev pub SoundAsSets : Type 0
SoundAsSets = (tets : List Tetrahedron) (marks : List CellMark) → IsSound tets marks → NoneIsFlat tets → IsSound (ascending_of tet_cmp tets) (ascending_of mark_cmp marks)

-- that each marked cell is a cell of a tetrahedron
abbrev pub AreOnCells : List Tetrahedron → List CellMark → Type 0
AreOnCells tets marks = list_all (λ mark. is_on tets mark.cell) marks ≡ true

-- a mesh is sound where no point off its closed faces is within two tetrahedra, its odd faces are marked and its marks are on cells
abbrev pub OddMarkedIsSound : Type 0
OddMarkedIsSound = (tets : List Tetrahedron) (marks : List CellMark) → NoneIsFlat tets → ((p : Rational) → IsOffFaces p tets → whole_cover p tets ≤ 1)
    → OddAreMarked tets marks → AreOnCells tets marks → IsSound tets marks

-- so a mesh is sound where it covers the same as a sound one, its odd faces are marked and its marks are on cells
abbrev pub SameCoverStaysSound : Type 0
SameCoverStaysSound = (tets others : List Tetrahedron) (marks new : List CellMark) → IsSound tets marks → NoneIsFlat tets → NoneIsFlat others
    → CoverTheSame tets others → OddAreMarked others new → AreOnCells others new → IsSound others new
