-- Which swaps are legal, by the tetrahedra of the cavity, as a set, and by marks: of an edge to a corner of the ring around it, and of a face to a corner across from it.
use Rattle.std.specs.Prelude.{ℕ, ◌^◌, ◌==◌, Bool, true, not, ◌&&◌, ◌||◌, nat_lt, List, [], ◌∷◌, filter}
use Rattle.std.specs.List.{list_all}
use Rattle.std.specs.Ordering.{int_eq}
use Rattle.ma_geom.specs.Coordinates.{Coordinates, place_cmp}
use Rattle.ma_geom.specs.Signs.{same_sign, side_of}
use Rattle.ma_cells.specs.Ascending.{ascending_of, has}
use Rattle.ma_cells.specs.Cells.{CellMark}
use Rattle.ma_cells.specs.Faces.{faces_of}
use Rattle.ma_cells.specs.Incidence.{is_marked}
use Rattle.ma_cells.specs.Stars.{besides}
use Rattle.ma_cells.specs.Tetrahedron.{Tetrahedron, tet_cmp}
use Rattle.ma_cells.specs.Worst.{worst}
use Rattle.cavity_rank.specs.Verdicts.{first_failing, verdict_of}
use Rattle.cavity_rank.specs.declared.verdict.Verdict.{Verdict}
use Rattle.cavity_swap.specs.Swapping.{had_by, outer_faces, swapped}

abbrev pub has_one_region : List Tetrahedron → Bool
has_one_region [] = true
has_one_region (first ∷ rest) = list_all (λ tet. int_eq tet.phys first.phys && int_eq tet.elem first.elem) rest

-- no mark is on the edge or the face that is taken away, nor on a face between two tetrahedra
abbrev pub is_bare : List CellMark → (at : List Coordinates) → List Tetrahedron → Bool
is_bare marks at cavity = not (is_marked marks at) && list_all (λ tet. list_all (λ face. not (had_by cavity face == 2 && is_marked marks face)) (faces_of tet.corners)) cavity

-- each outer face either has v, or v lies on the side of its tetrahedron
abbrev pub outer_faces_are_seen : List Tetrahedron → Coordinates → Bool
outer_faces_are_seen cavity v =
    list_all (λ tet. list_all (λ face. has place_cmp v face || list_all (λ d. same_sign (side_of face v) (side_of face d)) (besides face tet.corners)) (outer_faces cavity tet)) cavity

-- the least quality is below a quarter
abbrev pub is_bad : ℕ → Bool
is_bad old = nat_lt old (2 ^ 28)

-- the five tests
abbrev pub swap_tests : List Tetrahedron → List CellMark → (at : List Coordinates) → Coordinates → List Bool
swap_tests cavity marks at v =
    has_one_region cavity ∷ is_bare marks at cavity ∷ outer_faces_are_seen cavity v ∷ is_bad (worst cavity) ∷ nat_lt (worst cavity) (worst (swapped v cavity)) ∷ []

-- the number of the first test that fails, else the least quality of the new tetrahedra
abbrev pub judged_swap : List Tetrahedron → List CellMark → (at : List Coordinates) → Coordinates → Verdict
judged_swap cavity marks at v = verdict_of (worst (swapped v cavity)) (first_failing 1 (swap_tests cavity marks at v))

-- the corners that two tetrahedra share, in ascending order
abbrev pub shared_by : List Tetrahedron → List Coordinates
shared_by (s ∷ t ∷ []) = filter (λ p. has place_cmp p t.corners) s.corners
shared_by _ = []

-- the same of two tetrahedra, where the face that they share is taken away
abbrev pub judged_pair : List Tetrahedron → List CellMark → Coordinates → Verdict
judged_pair pair marks v = judged_swap (ascending_of tet_cmp pair) marks (shared_by pair) v
