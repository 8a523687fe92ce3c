-- Faces with tetrahedra on both sides.
use Rattle.std.specs.Prelude.{ℕ, pos, ◌≡◌, ◌≢◌, ◌≤◌, false, List}
use Rattle.std.specs.Cmp.Lexicographic.{slice_cmp}
use Rattle.std.specs.List.{AllByRecursion, AllPairs, count_by, flat_map}
use Rattle.ma_geom.specs.Coordinates.{Coordinates, place_cmp}
use Rattle.ma_geom.specs.Lines.{is_flat}
use Rattle.ma_cells.specs.Ascending.{has}
use Rattle.ma_cells.specs.Faces.{faces_of}
use Rattle.ma_cover.specs.Sound.{LieOnBothSides}
use Rattle.cavity_laws.specs.Cavity.{balance, facets_of}

-- how many tetrahedra, which are given by their corners, have a face
abbrev pub had_by : List Coordinates → List (List Coordinates) → ℕ
had_by face tets = count_by (λ corners. has (slice_cmp place_cmp) face (faces_of corners)) tets

-- where any two lie on both sides of each face that they share, at most two have a face, and it is balanced unless exactly one has it
abbrev pub FacesAreBalanced : Type 0
FacesAreBalanced = (tets : List (List Coordinates)) → AllByRecursion (λ corners. is_flat corners ≡ false) tets → AllPairs LieOnBothSides tets
    → (face : List Coordinates) → (had_by face tets ≤ 2) × (had_by face tets ≢ 1 → balance face (flat_map facets_of tets) ≡ pos 0)
