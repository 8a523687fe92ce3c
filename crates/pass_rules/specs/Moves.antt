-- The legal operations of a pass.
use Rattle.std.specs.Prelude.{ℕ, zero, suc, Bool, false, not, List, [], ◌∷◌, ◌++◌, length, map, Option, None, if◌then◌else◌}
use Rattle.std.specs.Cmp.Lexicographic.{slice_cmp}
use Rattle.std.specs.List.{flat_map, list_any}
use Rattle.std.specs.Option.{option_to_list}
use Rattle.std.specs.Ordering.{eq_by_cmp}
use Rattle.ma_geom.specs.Coordinates.{Coordinates, place_cmp}
use Rattle.ma_cells.specs.Ascending.{ascending_of}
use Rattle.ma_cells.specs.Cells.{CellMark}
use Rattle.ma_cells.specs.Faces.{choices, edges_of, faces_of}
use Rattle.ma_cells.specs.Stars.{besides, marks_at, star_of}
use Rattle.ma_cells.specs.Tetrahedron.{Tetrahedron}
use Rattle.ma_cells.specs.declared.batch.Batch.{Batch}
use Rattle.size_marks.specs.Field.{Field}
use Rattle.cavity_rank.specs.Operations.{Operation, rank}
use Rattle.cavity_rank.specs.declared.verdict.Kind.{Kind}
use Rattle.cavity_rank.specs.declared.verdict.Kind.TheVariants.{Collapse, Swap}
use Rattle.cavity_collapse.specs.Judging.{judged_collapse, legal_quality}
use Rattle.cavity_swap.specs.Judging.{judged_swap}
use Rattle.cavity_swap.specs.Rings.{edges_across, is_ring}

-- what a pass may take away of a tetrahedron: its corners by collapses, its edges and faces by swaps
abbrev pub spots_of : Kind → List Coordinates → List (List Coordinates)
spots_of Collapse corners = choices 1 corners
spots_of Swap corners = edges_of corners ++ faces_of corners

-- all lists of so many of the places, each any number of times and in any order
abbrev pub sequences : ℕ → List Coordinates → List (List Coordinates)
sequences zero places = [] ∷ []
sequences (suc n) places = flat_map (λ p. map (λ rest. p ∷ rest) (sequences n places)) places

-- whether edges make a single closed ring of 3 to 7, which has as many corners as edges
abbrev pub make_a_ring : List (List Coordinates) → Bool
make_a_ring edges = list_any (is_ring edges) (sequences (length edges) (flat_map (λ edge. edge) edges))

-- whether these are two tetrahedra with different corners
abbrev pub are_a_pair : List Tetrahedron → Bool
are_a_pair (s ∷ t ∷ []) = not (eq_by_cmp (slice_cmp place_cmp) s.corners t.corners)
are_a_pair _ = false

-- the least quality of what fills the cavity from v, by the tetrahedra and the marks around, if that is legal: of a vertex by a collapse, of an edge in a ring or a face between two tetrahedra by a swap
abbrev pub quality_at : Field → List Tetrahedron → List CellMark → (at : List Coordinates) → (v : Coordinates) → Option ℕ
quality_at field star marks (a ∷ []) v = legal_quality (judged_collapse field star marks a v)
quality_at field star marks (a ∷ b ∷ []) v = if make_a_ring (edges_across (a ∷ b ∷ []) star) then legal_quality (judged_swap star marks (a ∷ b ∷ []) v) else None
quality_at field star marks (a ∷ b ∷ c ∷ []) v = if are_a_pair star then legal_quality (judged_swap star marks (a ∷ b ∷ c ∷ []) v) else None
quality_at field star marks _ v = None

-- the operation that takes these places away and fills the cavity from v, if there is a quality
abbrev pub operations_from : (at : List Coordinates) → (v : Coordinates) → Option ℕ → List Operation
operations_from at v quality = map (λ worst. record { at = at; apex = v; worst = worst }) (option_to_list quality)

-- the same, if it is legal in a mesh
abbrev pub legal_from : Field → Batch → (at : List Coordinates) → (v : Coordinates) → List Operation
legal_from field mesh at v = operations_from at v (quality_at field (star_of at mesh.tets) (marks_at at mesh.marks) at v)

-- those that take away something of a tetrahedron and fill the cavity from another of its corners
abbrev pub legal_within : Kind → Field → Batch → Tetrahedron → List Operation
legal_within kind field mesh tet = flat_map (λ at. flat_map (legal_from field mesh at) (besides at tet.corners)) (spots_of kind tet.corners)

-- the legal operations of a pass over a mesh, in order of rank
abbrev pub legal_operations : Kind → Field → Batch → List Operation
legal_operations kind field mesh = ascending_of rank (flat_map (legal_within kind field mesh) mesh.tets)
