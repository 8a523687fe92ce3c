-- One mesh whose tetrahedra have the labels of parts, and what each part sees of it.
use Rattle.std.specs.Prelude.{ℕ, Bool, not, ◌&&◌, ◌==◌, List, ◌++◌, filter, map}
use Rattle.std.specs.List.{flat_map, list_any}
use Rattle.ma_geom.specs.Coordinates.{Coordinates, place_cmp}
use Rattle.ma_cells.specs.Ascending.{ascending_of, has}
use Rattle.ma_cells.specs.Cells.{CellMark}
use Rattle.ma_cells.specs.Incidence.{is_on}
use Rattle.ma_cells.specs.Tetrahedron.{Tetrahedron}
use Rattle.ma_cells.specs.declared.view.View.{View}

-- tetrahedra with the labels of the parts that own them, and marks
pub record LabelledMesh : Type 0 where
  pub tets : List (Tetrahedron × ℕ)
  pub marks : List CellMark

abbrev pub tet_of : Tetrahedron × ℕ → Tetrahedron
tet_of entry = entry.0

abbrev pub label_of : Tetrahedron × ℕ → ℕ
label_of entry = entry.1

abbrev pub has_label : ℕ → Tetrahedron × ℕ → Bool
has_label part entry = label_of entry == part

-- these tetrahedra, each with the label of one part
abbrev pub labelled : ℕ → List Tetrahedron → List (Tetrahedron × ℕ)
labelled part tets = map (λ tet. (tet, part)) tets

-- the marks on corners, edges and faces of these tetrahedra
abbrev pub marks_on : List Tetrahedron → List CellMark → List CellMark
marks_on tets marks = filter (λ mark. is_on tets mark.cell) marks

-- the tetrahedra of a part
abbrev pub own_of : LabelledMesh → ℕ → List Tetrahedron
own_of mesh part = map tet_of (filter (has_label part) mesh.tets)

-- the corners of all these tetrahedra, each once
abbrev pub corner_set : List Tetrahedron → List Coordinates
corner_set tets = ascending_of place_cmp (flat_map (λ tet. tet.corners) tets)

-- whether a tetrahedron has one of these places as a corner
abbrev pub touches : List Coordinates → Tetrahedron → Bool
touches places tet = list_any (λ corner. has place_cmp corner places) tet.corners

-- whether a tetrahedron is of another part and shares a corner with one of this part
abbrev pub is_ghost : LabelledMesh → ℕ → Tetrahedron × ℕ → Bool
is_ghost mesh part entry = not (has_label part entry) && touches (corner_set (own_of mesh part)) (tet_of entry)

abbrev pub ghosts_of : LabelledMesh → ℕ → List (Tetrahedron × ℕ)
ghosts_of mesh part = filter (is_ghost mesh part) mesh.tets

-- own tetrahedra and ghosts
abbrev pub seen_by : LabelledMesh → ℕ → List Tetrahedron
seen_by mesh part = own_of mesh part ++ map tet_of (ghosts_of mesh part)

-- what a part sees: these, and the marks on their cells
abbrev pub view_of : LabelledMesh → ℕ → View
view_of mesh part = record {
  part = part;
  own = own_of mesh part;
  ghosts = ghosts_of mesh part;
  marks = marks_on (seen_by mesh part) mesh.marks;
}
