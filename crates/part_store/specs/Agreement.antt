-- Who has a cell, and when what two parts see is in agreement.
use Rattle.std.specs.Prelude.{◌≡◌, ℕ, Bool, true, List, [], ◌∷◌, ◌++◌, filter, map, Option, Some, None}
use Rattle.std.specs.Ordering.{eq_by_cmp, nat_cmp}
use Rattle.ma_geom.specs.Coordinates.{Coordinates}
use Rattle.ma_cells.specs.Ascending.{ascending_of}
use Rattle.ma_cells.specs.Cells.{CellMark, cell_cmp, corners_of, is_cell}
use Rattle.ma_cells.specs.Faces.{holds_all}
use Rattle.ma_cells.specs.Incidence.{is_on}
use Rattle.ma_cells.specs.Tetrahedron.{Tetrahedron}
use Rattle.ma_cells.specs.Views.{ghost_cmp}
use Rattle.ma_cells.specs.declared.cell.Cell.{Cell}
use Rattle.ma_cells.specs.declared.view.View.{View}
use Rattle.part_store.specs.Labelled.{LabelledMesh, label_of, labelled, tet_of, view_of}

-- own tetrahedra and ghosts, with their labels
abbrev pub all_in : View → List (Tetrahedron × ℕ)
all_in view = labelled view.part view.own ++ view.ghosts

-- whether an own tetrahedron or a ghost has a cell
abbrev pub sees : View → Cell → Bool
sees view cell = is_on (view.own ++ map tet_of view.ghosts) cell

-- those that have all these places as corners
abbrev pub around : List Coordinates → List (Tetrahedron × ℕ) → List (Tetrahedron × ℕ)
around places tets = filter (λ entry. holds_all (tet_of entry).corners places) tets

-- the same of a view, as a set
abbrev pub star_in : View → List Coordinates → List (Tetrahedron × ℕ)
star_in view places = ascending_of ghost_cmp (around places (all_in view))

-- the labels of all of these that have a cell
abbrev pub residents : Cell → List (Tetrahedron × ℕ) → List ℕ
residents cell tets = ascending_of nat_cmp (map label_of (around (corners_of cell) tets))

abbrev pub residents_of : View → Cell → List ℕ
residents_of view cell = residents cell (all_in view)

abbrev pub first_of : List ℕ → Option ℕ
first_of [] = None
first_of (n ∷ ns) = Some n

-- the least resident, if there is one
abbrev pub owner_of : View → Cell → Option ℕ
owner_of view cell = first_of (residents_of view cell)

-- the marks on a cell itself
abbrev pub marks_of : Cell → List CellMark → List CellMark
marks_of cell marks = filter (λ mark. eq_by_cmp cell_cmp mark.cell cell) marks

-- that where both views have a cell they have the same marks on it, and where their own tetrahedra have it they name the same residents and the same owner
pub record Agree (v w : View) : Type 0 where
  pub marks : (cell : Cell) → sees v cell ≡ true → sees w cell ≡ true → marks_of cell v.marks ≡ marks_of cell w.marks
  pub residents : (cell : Cell) → is_cell cell ≡ true → is_on v.own cell ≡ true → is_on w.own cell ≡ true → residents_of v cell ≡ residents_of w cell
  pub owner : (cell : Cell) → is_cell cell ≡ true → is_on v.own cell ≡ true → is_on w.own cell ≡ true → owner_of v cell ≡ owner_of w cell

-- that what any two parts see of one mesh is in agreement
abbrev pub ViewsAgree : Type 0
ViewsAgree = (mesh : LabelledMesh) (p q : ℕ) → Agree (view_of mesh p) (view_of mesh q)
