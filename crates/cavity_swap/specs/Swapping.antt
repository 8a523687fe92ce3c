-- What a swap leaves in the place of a cavity: tetrahedra from one place over the faces of the cavity.
use Rattle.std.specs.Prelude.{ℕ, ◌==◌, List, [], ◌∷◌, filter}
use Rattle.std.specs.List.{count_by, flat_map}
use Rattle.ma_geom.specs.Coordinates.{Coordinates}
use Rattle.ma_cells.specs.Ascending.{ascending_of}
use Rattle.ma_cells.specs.Faces.{faces_of, holds_all}
use Rattle.ma_cells.specs.Stars.{cone}
use Rattle.ma_cells.specs.Tetrahedron.{Tetrahedron, tet_cmp}

-- how many of the tetrahedra have a face
abbrev pub had_by : List Tetrahedron → List Coordinates → ℕ
had_by cavity face = count_by (λ (tet : Tetrahedron). holds_all tet.corners face) cavity

-- the faces of a tetrahedron of a cavity that no other one has
abbrev pub outer_faces : List Tetrahedron → Tetrahedron → List (List Coordinates)
outer_faces cavity tet = filter (λ face. had_by cavity face == 1) (faces_of tet.corners)

-- what fills a cavity: the tetrahedra from v over its outer faces, with the region of the first
abbrev pub swapped : Coordinates → List Tetrahedron → List Tetrahedron
swapped v [] = []
swapped v (first ∷ rest) = ascending_of tet_cmp (flat_map (λ tet. flat_map (cone v first.phys first.elem) (outer_faces (first ∷ rest) tet)) (first ∷ rest))
