-- Tables by which the tetrahedra and the marks around a place are found.
use Rattle.std.specs.Prelude.{ℕ, ◌+◌, Bool, List, [], ◌∷◌, ◌++◌, map, if◌then◌else◌}
use Rattle.std.specs.declared.cmp.Ordering.{Ordering}
use Rattle.std.specs.Ordering.{nat_cmp, ordering_then}
use Rattle.ma_geom.specs.Coordinates.{Coordinates, place_cmp}
use Rattle.ma_cells.specs.Ascending.{ascending_of}
use Rattle.ma_cells.specs.Cells.{CellMark, corners_of}
use Rattle.ma_cells.specs.Tetrahedron.{Tetrahedron}
use Rattle.corner_tables.specs.declared.table.Corner.{Corner}

-- by place, then by position
abbrev pub corner_cmp : Corner → Corner → Ordering
corner_cmp c d = ordering_then (place_cmp c.place d.place) (nat_cmp c.position d.position)

abbrev pub corner_at : ℕ → Coordinates → Corner
corner_at position place = record { place = place; position = position }

-- the corners of tetrahedra or of marked cells, with the positions of these, counted from k
abbrev pub corners_from : ℕ → List (List Coordinates) → List Corner
corners_from k [] = []
corners_from k (cell ∷ cells) = map (corner_at k) cell ++ corners_from (k + 1) cells

-- the table of tetrahedra, and that of marks
abbrev pub tets_table : List Tetrahedron → List Corner
tets_table tets = ascending_of corner_cmp (corners_from 0 (map (λ tet. tet.corners) tets))

abbrev pub marks_table : List CellMark → List Corner
marks_table marks = ascending_of corner_cmp (corners_from 0 (map (λ mark. corners_of mark.cell) marks))

-- the positions, counted from k, of the items that pass a test
abbrev pub positions_from : {X : Type 0} → ℕ → (X → Bool) → List X → List ℕ
positions_from k test [] = []
positions_from k test (x ∷ xs) = if test x then k ∷ positions_from (k + 1) test xs else positions_from (k + 1) test xs
