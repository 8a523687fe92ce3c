-- What is around a vertex, an edge or a face, and tetrahedra over faces. Collapses and swaps are to be defined by these: they take away a star, and put cones in its place.
use Rattle.std.specs.Prelude.{ℤ, not, List, ◌∷◌, filter}
use Rattle.std.specs.Option.{option_to_list}
use Rattle.ma_geom.specs.Coordinates.{Coordinates, place_cmp}
use Rattle.ma_cells.specs.Ascending.{has}
use Rattle.ma_cells.specs.Cells.{CellMark, corners_of}
use Rattle.ma_cells.specs.Faces.{holds_all}
use Rattle.ma_cells.specs.Tetrahedron.{Tetrahedron, tetrahedron_of}

-- the tetrahedra that have all these places as corners
abbrev pub star_of : List Coordinates → List Tetrahedron → List Tetrahedron
star_of places tets = filter (λ tet. holds_all tet.corners places) tets

-- the marks on cells that have all these places as corners
abbrev pub marks_at : List Coordinates → List CellMark → List CellMark
marks_at places marks = filter (λ mark. holds_all (corners_of mark.cell) places) marks

-- the corners that aren't among these places
abbrev pub besides : List Coordinates → List Coordinates → List Coordinates
besides places corners = filter (λ p. not (has place_cmp p places)) corners

-- the tetrahedron from v over a face, with this region, unless it is flat, as where v is a corner of the face
abbrev pub cone : Coordinates → ℤ → ℤ → List Coordinates → List Tetrahedron
cone v phys elem face = option_to_list (tetrahedron_of (v ∷ face) phys elem)
