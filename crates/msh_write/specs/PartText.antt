-- The text of what a part sees of a mesh.
use Rattle.std.specs.Prelude.{ℕ, ℤ, pos, Bool, ◌&&◌, ◌+◌, if◌then◌else◌, List, [], ◌∷◌, ◌++◌, Option, Some, None, length, map, neg_ℤ}
use Rattle.std.specs.declared.cmp.Ordering.{Ordering}
use Rattle.std.specs.List.{filter, list_any}
use Rattle.std.specs.Option.{is_none, option_cmp, unwrap_or}
use Rattle.std.specs.Ordering.{nat_cmp, ordering_then}
use Rattle.ma_geom.specs.Coordinates.{Coordinates}
use Rattle.ma_cells.specs.Ascending.{ascending_of}
use Rattle.ma_cells.specs.Cells.{CellMark, corners_of}
use Rattle.ma_cells.specs.Faces.{holds_all}
use Rattle.ma_cells.specs.Tetrahedron.{Tetrahedron, tet_cmp}
use Rattle.ma_cells.specs.declared.view.View.{View}
use Rattle.msh_read.specs.GroupNames.{GroupName}
use Rattle.msh_write.specs.Text.{Element, is_tagged, mark_element, tet_element, text_with}

-- a tetrahedron of a view, with None where it is the part's own, and with its label where it is a ghost
abbrev pub Member : Type 0
Member = Tetrahedron × Option ℕ

-- by tetrahedron; of equal ones the part's own is first, and then they come by label
abbrev pub member_cmp : Member → Member → Ordering
member_cmp m n = ordering_then (tet_cmp m.0 n.0) (option_cmp nat_cmp m.1 n.1)

-- the part's own tetrahedra and the ghosts in one ascending list
abbrev pub members_of : View → List Member
members_of view = ascending_of member_cmp (map (λ tet. (tet, None)) view.own ++ map (λ g. (g.0, Some g.1)) view.ghosts)

abbrev pub tets_of_members : List Member → List Tetrahedron
tets_of_members members = map (λ m. m.0) members

-- 1 and the part, or 2, the part of a ghost, and the part whose view it is with a minus; parts count from 1 here
abbrev pub member_tags : ℕ → Option ℕ → List ℤ
member_tags part None = pos 1 ∷ pos (part + 1) ∷ []
member_tags part (Some label) = pos 2 ∷ pos (label + 1) ∷ neg_ℤ (pos (part + 1)) ∷ []

abbrev pub member_element : ℕ → Member → Element
member_element part m = tet_element (member_tags part m.1) m.0

-- whether a tetrahedron of the part's own has all these corners
abbrev pub is_on_own : List Member → List Coordinates → Bool
is_on_own members corners = list_any (λ m. is_none m.1 && holds_all m.0.corners corners) members

-- the parts of the tetrahedra that have all these corners, each once
abbrev pub residents_of : ℕ → List Member → List Coordinates → List ℕ
residents_of part members corners = ascending_of nat_cmp (map (λ m. unwrap_or m.1 part) (filter (λ m. holds_all m.0.corners corners) members))

-- how many parts, and which, counted from 1
abbrev pub resident_tags : List ℕ → List ℤ
resident_tags parts = pos (length parts) ∷ map (λ part. pos (part + 1)) parts

-- the residents of what is on a tetrahedron of the part's own
abbrev pub cell_tags : ℕ → List Member → List Coordinates → List ℤ
cell_tags part members corners = if is_on_own members corners then resident_tags (residents_of part members corners) else []

abbrev pub resident_element : ℕ → List Member → CellMark → Element
resident_element part members mark = mark_element (cell_tags part members (corners_of mark.cell)) mark

-- the marks, and behind them the tetrahedra
abbrev pub part_elements : View → List Element
part_elements view =
    let members = members_of view in
    map (resident_element view.part members) (filter is_tagged view.marks) ++ map (member_element view.part) members

abbrev pub part_text : View → List GroupName → List ℕ
part_text view names = text_with names (tets_of_members (members_of view)) (part_elements view)
