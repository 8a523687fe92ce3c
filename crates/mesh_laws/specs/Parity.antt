-- Whether an odd number of items pass a test, and how often faces are listed.
use Rattle.std.specs.Prelude.{ℕ, ℤ, zero, suc, ◌≡◌, Bool, false, not, ◌&&◌, List, [], if◌then◌else◌}
use Rattle.std.specs.Cmp.Lexicographic.{slice_cmp}
use Rattle.std.specs.List.{count_by, flat_map}
use Rattle.std.specs.Ordering.{eq_by_cmp, int_eq}
use Rattle.ma_geom.specs.Coordinates.{Coordinates, place_cmp}
use Rattle.ma_cells.specs.Faces.{faces_of}
use Rattle.ma_cells.specs.Tetrahedron.{Tetrahedron}
use Rattle.ma_cover.specs.Sound.{holders}
use Rattle.mesh_laws.specs.Points.{NoneIsFlat}

abbrev pub is_odd : ℕ → Bool
is_odd zero = false
is_odd (suc n) = not (is_odd n)

-- how often a face is listed
abbrev pub listings : List Coordinates → List (List Coordinates) → ℕ
listings face faces = count_by (eq_by_cmp (slice_cmp place_cmp) face) faces

-- that two lists have the same faces an odd number of times
abbrev pub AreSameOddly : List (List Coordinates) → List (List Coordinates) → Type 0
AreSameOddly faces others = (face : List Coordinates) → is_odd (listings face faces) ≡ is_odd (listings face others)

-- then a test passes an odd number of times on both or on neither
abbrev pub SameOddlyPassOddly : Type 0
SameOddlyPassOddly = (faces others : List (List Coordinates)) → AreSameOddly faces others → (test : List Coordinates → Bool)
    → is_odd (count_by test faces) ≡ is_odd (count_by test others)

-- the faces of the tetrahedra of the region (phys, elem). One that two of them have is listed twice
abbrev pub region_faces : (phys elem : ℤ) → List Tetrahedron → List (List Coordinates)
region_faces phys elem tets = flat_map (λ tet. if int_eq tet.phys phys && int_eq tet.elem elem then faces_of tet.corners else []) tets

-- a face is listed as often as tetrahedra of the region have it
abbrev pub HoldersAreListings : Type 0
HoldersAreListings = (tets : List Tetrahedron) → NoneIsFlat tets → (phys elem : ℤ) (face : List Coordinates)
    → holders phys elem face tets ≡ listings face (region_faces phys elem tets)
