-- The legal operations as the code finds them, by the places that they take away. No public contract names these.
use Rattle.std.specs.Prelude.{◌≡◌, ⊤, ℕ, Bool, false, if◌then◌else◌, List, [], ◌∷◌, filter, Option, Some, None}
use Rattle.std.specs.declared.cmp.Ordering.{Ordering}
use Rattle.std.specs.Cmp.Lexicographic.{slice_cmp}
use Rattle.std.specs.List.{flat_map}
use Rattle.std.specs.List.Sorted.{IsStrictlySortedBy}
use Rattle.std.specs.Ordering.{eq_by_cmp}
use Rattle.ma_geom.specs.Coordinates.{Coordinates, place_cmp}
use Rattle.ma_geom.specs.Quality.{quality}
use Rattle.ma_cells.specs.Ascending.{ascending_of}
use Rattle.ma_cells.specs.Cells.{CellMark}
use Rattle.ma_cells.specs.Faces.{choices}
use Rattle.ma_cells.specs.Stars.{marks_at, star_of}
use Rattle.ma_cells.specs.Tetrahedron.{Tetrahedron, tet_cmp}
use Rattle.ma_cells.specs.declared.batch.Batch.{Batch}
use Rattle.size_marks.specs.Field.{Field}
use Rattle.cavity_rank.specs.Operations.{Operation}
pub use Rattle.cavity_collapse.specs.Facing.{others_of}
use Rattle.cavity_collapse.specs.Judging.{legal_quality}
use Rattle.cavity_swap.specs.Judging.{is_bad, judged_swap}
use Rattle.cavity_swap.specs.Outer.{quality_from}
use Rattle.cavity_swap.specs.Rings.{edges_across}
use Rattle.pass_rules.specs.Moves.{are_a_pair, legal_from, make_a_ring, operations_from}

-- vertices, edges and faces by their places in turn
abbrev pub spot_cmp : List Coordinates → List Coordinates → Ordering
spot_cmp at other = slice_cmp place_cmp at other

abbrev pub vertices_of : List Tetrahedron → List Coordinates
vertices_of tets = ascending_of place_cmp (flat_map (λ tet. tet.corners) tets)

abbrev pub legal_around : Field → Batch → (at : List Coordinates) → List Operation
legal_around field mesh at = flat_map (legal_from field mesh at) (others_of at (star_of at mesh.tets))

-- the edges of these tetrahedra, by two places, or their faces, by three
abbrev pub parts_of : ℕ → List Tetrahedron → List (List Coordinates)
parts_of n tets = ascending_of spot_cmp (flat_map (λ tet. choices n tet.corners) tets)

abbrev pub is_bad_tet : Tetrahedron → Bool
is_bad_tet tet = is_bad (quality tet.corners)

abbrev pub bad_among : List Tetrahedron → List Tetrahedron
bad_among tets = filter is_bad_tet tets

-- whether the tetrahedra around an edge are a ring, or those around a face a pair
abbrev pub is_swappable : (at : List Coordinates) → List Tetrahedron → Bool
is_swappable (a ∷ b ∷ []) star = make_a_ring (edges_across (a ∷ b ∷ []) star)
is_swappable (a ∷ b ∷ c ∷ []) star = are_a_pair star
is_swappable _ star = false

-- the swaps of an edge or a face to v, by the tetrahedra and the marks around it
abbrev pub swaps_at : List Tetrahedron → List CellMark → (at : List Coordinates) → Coordinates → List Operation
swaps_at star marks at v = operations_from at v (legal_quality (judged_swap star marks at v))

-- the same where the tests pass that don't hang on v
abbrev pub swaps_from : List Tetrahedron → (at : List Coordinates) → Coordinates → List Operation
swaps_from star at v = operations_from at v (quality_from star v)

abbrev pub swaps_around : Batch → (at : List Coordinates) → List Operation
swaps_around mesh at = if is_swappable at (star_of at mesh.tets) then flat_map (swaps_at (star_of at mesh.tets) (marks_at at mesh.marks) at) (others_of at (star_of at mesh.tets)) else []

-- whether these are the tetrahedra, in ascending order, and the marks at a vertex of a mesh, if there is a vertex
abbrev pub AreAt : Batch → Option Coordinates → List Tetrahedron → List CellMark → Type 0
AreAt mesh (Some a) tets marks = (tets ≡ star_of (a ∷ []) mesh.tets) × IsStrictlySortedBy tet_cmp tets × (marks ≡ marks_at (a ∷ []) mesh.marks)
AreAt mesh None tets marks = ⊤

-- whether a vertex is that one, if there is a vertex
abbrev pub is_at : Option Coordinates → Coordinates → Bool
is_at (Some p) a = eq_by_cmp place_cmp p a
is_at None a = false
