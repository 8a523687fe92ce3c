-- The text of a mesh, as lines of words.
use Rattle.std.specs.Prelude.{ℕ, ℤ, pos, Bool, not, ◌&&◌, ◌+◌, if◌then◌else◌, List, [], ◌∷◌, ◌++◌, length, map, codes, int_lt}
use Rattle.std.specs.Fmt.{decimal, signed_decimal}
use Rattle.std.specs.List.{enumerate_from, filter, flat_map, join_with_byte}
use Rattle.std.specs.Ordering.{int_eq, is_eq}
use Rattle.ma_geom.specs.Coordinates.{Coordinates, place_cmp}
use Rattle.ma_geom.specs.Volume.{vol6}
use Rattle.ma_cells.specs.Ascending.{ascending_of}
use Rattle.ma_cells.specs.Cells.{CellMark, corners_of}
use Rattle.ma_cells.specs.Tetrahedron.{Tetrahedron}
use Rattle.ma_cells.specs.declared.batch.Batch.{Batch}
use Rattle.ma_cells.specs.declared.cell.Cell.{Cell}
use Rattle.ma_cells.specs.declared.cell.Cell.TheVariants.{Point, Seg, Tri}
use Rattle.msh_read.specs.GroupNames.{GroupName}

-- words divided by one space
abbrev pub line_of : List (List ℕ) → List ℕ
line_of = join_with_byte 32

-- the lines of these items, which are numbered from 1
abbrev pub item_lines : {X : Type 0} → (ℕ → X → List ℕ) → List X → List (List ℕ)
item_lines line items = map (λ e. line e.0 e.1) (enumerate_from 1 items)

-- a section that counts its lines
abbrev pub counted_section : List ℕ → List (List ℕ) → List (List ℕ)
counted_section name lines = (codes "$" ++ name) ∷ decimal (length lines) ∷ (lines ++ (codes "$End" ++ name) ∷ [])

-- each line with a line feed after it
unfoldable pub ended : List (List ℕ) → List ℕ
ended lines = flat_map (λ line. line ++ 10 ∷ []) lines

abbrev pub format_lines : List (List ℕ)
format_lines = codes "$MeshFormat" ∷ codes "2.2 0 8" ∷ codes "$EndMeshFormat" ∷ []

-- dimension, number, and the name between quotation marks
abbrev pub name_line : GroupName → List ℕ
name_line name = line_of (decimal name.dimension ∷ signed_decimal name.number ∷ (codes "\"" ++ name.text ++ codes "\"") ∷ [])

-- the section of names, which is left out where there are none
abbrev pub names_lines : List GroupName → List (List ℕ)
names_lines [] = []
names_lines (name ∷ names) = counted_section (codes "PhysicalNames") (map name_line (name ∷ names))

-- the nodes of a mesh: the corners of its tetrahedra, each once, ascending
abbrev pub nodes_of : List Tetrahedron → List Coordinates
nodes_of tets = ascending_of place_cmp (flat_map (λ t. t.corners) tets)

-- number and coordinates
abbrev pub node_line : ℕ → Coordinates → List ℕ
node_line number p = line_of (decimal number ∷ signed_decimal p.x ∷ signed_decimal p.y ∷ signed_decimal p.z ∷ [])

-- the number of a node, which is its place among the nodes, counted from 1
abbrev pub number_among : List Coordinates → Coordinates → ℕ
number_among [] p = 1
number_among (node ∷ nodes) p = if is_eq (place_cmp node p) then 1 else 1 + number_among nodes p

-- what the line of an element tells: the number of its type, its tags and its corners
pub record Element : Type 0 where
  pub kind : ℕ
  pub tags : List ℤ
  pub corners : List Coordinates

-- number, type, how many tags, the tags, and the numbers of the nodes
abbrev pub element_line : List Coordinates → ℕ → Element → List ℕ
element_line nodes number e =
    line_of ((decimal number ∷ decimal e.kind ∷ decimal (length e.tags) ∷ map signed_decimal e.tags) ++ map (λ p. decimal (number_among nodes p)) e.corners)

abbrev pub kind_of : Cell → ℕ
kind_of (Point p) = 15
kind_of (Seg s) = 1
kind_of (Tri t) = 2

-- a mark with these tags behind its own
abbrev pub mark_element : List ℤ → CellMark → Element
mark_element tags mark = record { kind = kind_of mark.cell; tags = mark.phys ∷ mark.elem ∷ tags; corners = corners_of mark.cell }

-- the corners in an order in which the volume is positive: where it is negative, the last two are exchanged
abbrev pub oriented : List Coordinates → List Coordinates
oriented (a ∷ b ∷ c ∷ d ∷ []) = if int_lt (vol6 a b c d) (pos 0) then a ∷ b ∷ d ∷ c ∷ [] else a ∷ b ∷ c ∷ d ∷ []
oriented corners = corners

-- a tetrahedron with these tags behind its own
abbrev pub tet_element : List ℤ → Tetrahedron → Element
tet_element tags tet = record { kind = 4; tags = tet.phys ∷ tet.elem ∷ tags; corners = oriented tet.corners }

-- whether a mark has another tag than 0 0, with which it isn't written
abbrev pub is_tagged : CellMark → Bool
is_tagged mark = not (int_eq mark.phys (pos 0) && int_eq mark.elem (pos 0))

-- the lines up to the elements
abbrev pub head_lines : List GroupName → List Coordinates → List (List ℕ)
head_lines names nodes = format_lines ++ names_lines names ++ counted_section (codes "Nodes") (item_lines node_line nodes)

-- the text with these names, with the corners of these tetrahedra as nodes, and with these elements
unfoldable pub text_with : List GroupName → List Tetrahedron → List Element → List ℕ
text_with names tets elements =
    let nodes = nodes_of tets in
    ended (head_lines names nodes ++ counted_section (codes "Elements") (item_lines (element_line nodes) elements))

-- the marks, and behind them the tetrahedra, each with the tags phys and elem alone
abbrev pub elements_of : Batch → List Element
elements_of mesh = map (mark_element []) (filter is_tagged mesh.marks) ++ map (tet_element []) mesh.tets

-- the canonical text of a mesh
abbrev pub text_of : Batch → List GroupName → List ℕ
text_of mesh names = text_with names mesh.tets (elements_of mesh)
