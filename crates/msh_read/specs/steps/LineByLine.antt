-- Steps of the code and no promise: how a line goes on from the lines before it, by where it stands.
use Rattle.std.specs.Prelude.{ℕ, ◌-◌, true, not, ◌==◌, if◌then◌else◌, codes, List, [], ◌∷◌, ◌++◌, Result, Ok}
use Rattle.std.specs.Str.{bytes_eq}
use Rattle.msh_read.specs.declared.fault.MshKind.{MshKind}
use Rattle.msh_read.specs.declared.fault.MshKind.TheVariants.{NoFormat, BadLine, BadCount, NoNodes, NoElements}
use Rattle.msh_read.specs.declared.stand.Counted.{Counted}
use Rattle.msh_read.specs.declared.stand.Counted.TheVariants.{Names, Nodes, Elements}
use Rattle.msh_read.specs.declared.stand.Stand.{Stand}
use Rattle.msh_read.specs.declared.stand.Stand.TheVariants.{Outside, Skipped, Format, FormatEnd, Count, Entries}
use Rattle.msh_read.specs.ElementLines.{RawElement, a_mark, a_tet, element_of}
use Rattle.msh_read.specs.steps.Front.{Front}
use Rattle.msh_read.specs.Lines.{header_of, closes, format_of, count_of}
use Rattle.msh_read.specs.NameLines.{name_of}
use Rattle.msh_read.specs.NodeLines.{node_of}
use Rattle.msh_read.specs.Trying.{◌>>=◌, ◌>>◌, check}

-- ---- headers

abbrev pub begin : Stand → List ℕ → Front → Front
begin stand name front = record front { stand = stand; header = name }

-- '$MeshFormat' stands once, and before the three others
unfoldable pub format_begun : List ℕ → Front → Result Front MshKind
format_begun name front = do
  check BadLine (not front.has_format)
  Ok (begin Format name (record front { has_format = true }))

unfoldable pub names_begun : List ℕ → Front → Result Front MshKind
names_begun name front = do
  check NoFormat front.has_format
  check BadLine (not front.has_names)
  Ok (begin (Count Names) name (record front { has_names = true }))

unfoldable pub nodes_begun : List ℕ → Front → Result Front MshKind
nodes_begun name front = do
  check NoFormat front.has_format
  check BadLine (not front.has_nodes)
  Ok (begin (Count Nodes) name (record front { has_nodes = true }))

-- '$Elements' stands behind '$Nodes'
unfoldable pub elements_begun : List ℕ → Front → Result Front MshKind
elements_begun name front = do
  check NoFormat front.has_format
  check NoNodes front.has_nodes
  check BadLine (not front.has_elements)
  Ok (begin (Count Elements) name (record front { has_elements = true }))

-- the section of this name begins; one of any other name is skipped
unfoldable pub begun : List ℕ → Front → Result Front MshKind
begun name front =
    if bytes_eq name (codes "MeshFormat") then format_begun name front
    else (if bytes_eq name (codes "PhysicalNames") then names_begun name front
    else (if bytes_eq name (codes "Nodes") then nodes_begun name front
    else (if bytes_eq name (codes "Elements") then elements_begun name front
    else Ok (begin Skipped name front))))

unfoldable pub header_read : Front → List ℕ → Result Front MshKind
header_read front line = do
  name ← header_of line
  begun name front

-- ---- the lines of a section

abbrev pub at : Stand → Front → Front
at stand front = record front { stand = stand }

unfoldable pub skipped_read : Front → List ℕ → Result Front MshKind
skipped_read front line = Ok (if closes front.header line then at Outside front else front)

unfoldable pub format_read : Front → List ℕ → Result Front MshKind
format_read front line = do
  format_of line
  Ok (at FormatEnd front)

unfoldable pub format_end_read : Front → List ℕ → Result Front MshKind
format_end_read front line = do
  check BadLine (closes front.header line)
  Ok (at Outside front)

-- why a section has to have an entry, if it has to
abbrev pub enough : Counted → ℕ → Result (Unit {0}) MshKind
enough Names count = Ok tt
enough Nodes count = check NoNodes (not (count == 0))
enough Elements count = check NoElements (not (count == 0))

unfoldable pub count_read : Counted → Front → List ℕ → Result Front MshKind
count_read section front line = do
  count ← count_of line
  enough section count
  Ok (at (Entries section count) front)

abbrev pub with_element : RawElement → Front → Front
with_element (a_tet tet) front = record front { tets = front.tets ++ tet ∷ [] }
with_element (a_mark mark) front = record front { marks = front.marks ++ mark ∷ [] }

unfoldable pub name_read : Front → List ℕ → Result Front MshKind
name_read front line = do
  name ← name_of line
  Ok (record front { names = front.names ++ name ∷ [] })

unfoldable pub node_read : Front → List ℕ → Result Front MshKind
node_read front line = do
  node ← node_of front.numbers line
  Ok (record front { numbers = front.numbers ++ node.0 ∷ []; nodes = front.nodes ++ node.1 ∷ [] })

unfoldable pub element_read : Front → List ℕ → Result Front MshKind
element_read front line = do
  element ← element_of front.numbers line
  Ok (with_element element front)

abbrev pub entry_read : Counted → Front → List ℕ → Result Front MshKind
entry_read Names front line = name_read front line
entry_read Nodes front line = node_read front line
entry_read Elements front line = element_read front line

-- a section's end, where no entry is left
unfoldable pub end_read : ℕ → Front → Result Front MshKind
end_read left front = do
  check BadCount (left == 0)
  Ok (at Outside front)

-- one of the entries that are left
unfoldable pub next_read : Counted → ℕ → Front → List ℕ → Result Front MshKind
next_read section left front line = do
  check BadCount (not (left == 0))
  after ← entry_read section front line
  Ok (at (Entries section (left - 1)) after)

unfoldable pub counted_read : Counted → ℕ → Front → List ℕ → Result Front MshKind
counted_read section left front line =
    if closes front.header line then end_read left front
    else next_read section left front line

-- ---- any line

abbrev pub read_at : Stand → Front → List ℕ → Result Front MshKind
read_at Outside front line = header_read front line
read_at Skipped front line = skipped_read front line
read_at Format front line = format_read front line
read_at FormatEnd front line = format_end_read front line
read_at (Count section) front line = count_read section front line
read_at (Entries section left) front line = counted_read section left front line

-- the front with the line that comes next
unfoldable pub step : Front → List ℕ → Result Front MshKind
step front line = read_at front.stand front line
