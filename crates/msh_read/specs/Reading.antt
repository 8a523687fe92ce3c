-- What a file is read as, section by section. Its fault is at the first line that isn't what it has to be at its place.
use Rattle.std.specs.Prelude.{ℕ, zero, suc, Bool, true, false, not, ◌==◌, if◌then◌else◌, ℤ, codes, List, [], ◌∷◌, ◌++◌, map, Option, Some, None, is_some, unwrap_or, Result, Ok, Err}
use Rattle.std.specs.List.{filter_map}
use Rattle.std.specs.Str.{bytes_eq}
use Rattle.ma_geom.specs.Coordinates.{Coordinates}
use Rattle.ma_cells.specs.Ascending.{ascending_of}
use Rattle.ma_text.specs.Lines.{numbered_lines, end_number}
use Rattle.msh_read.specs.declared.fault.MshFault.{MshFault}
use Rattle.msh_read.specs.declared.fault.MshFault.TheVariants.{At}
use Rattle.msh_read.specs.declared.fault.MshKind.{MshKind}
use Rattle.msh_read.specs.declared.fault.MshKind.TheVariants.{BadLine, BadCount, NoFormat, Truncated, NoNodes, NoElements}
use Rattle.msh_read.specs.ElementLines.{RawElement, mark_in, tet_in, element_of}
use Rattle.msh_read.specs.GroupNames.{GroupName, name_cmp}
use Rattle.msh_read.specs.Lines.{count_of, format_of, header_of}
use Rattle.msh_read.specs.NameLines.{name_of}
use Rattle.msh_read.specs.NodeLines.{node_of}
use Rattle.msh_read.specs.Raw.{Raw}
use Rattle.msh_read.specs.Sections.{NumberedLine, Section, SectionEnd, sections_of}
use Rattle.msh_read.specs.Trying.{◌>>=◌, ◌>>◌, check, or_fault}

-- what stands at the line with the number, or its fault
abbrev pub at_line : {A : Type 0} → ℕ → Result A MshKind → Result A MshFault
at_line number (Ok x) = Ok x
at_line number (Err kind) = Err (At number kind)

-- ---- the lines of a section

-- the fault of a section that ends where a line has to stand
abbrev pub wanting : MshKind → SectionEnd → MshFault
wanting kind end = At end.at (if end.is_written then kind else Truncated)

-- a section ends with its line
abbrev pub end_line_in : SectionEnd → Result (Unit {0}) MshFault
end_line_in end = at_line end.at (check Truncated end.is_written)

-- no line is left, and the section ends
abbrev pub no_more : MshKind → SectionEnd → List NumberedLine → Result (Unit {0}) MshFault
no_more kind end [] = end_line_in end
no_more kind end (line ∷ lines) = Err (At line.0 kind)

-- the format's one line
abbrev pub format_in : SectionEnd → List NumberedLine → Result (Unit {0}) MshFault
format_in end [] = Err (wanting BadLine end)
format_in end (line ∷ lines) = do
  at_line line.0 (format_of line.1)
  no_more BadLine end lines

-- so many lines with an entry each, which is read where those before it are known, and no more
abbrev pub entries_in : {A : Type 0} → (List A → List ℕ → Result A MshKind) → SectionEnd → ℕ → List A → List NumberedLine → Result (List A) MshFault
entries_in read end zero before lines = do
  no_more BadCount end lines
  Ok before
entries_in read end (suc left) before [] = Err (wanting BadCount end)
entries_in read end (suc left) before (line ∷ lines) = do
  entry ← at_line line.0 (read before line.1)
  entries_in read end left (before ++ entry ∷ []) lines

-- The line of a count that is enough, and as many entries. A section that ends where its count has to stand has a bad line.
abbrev pub counted_in : {A : Type 0} → (List A → List ℕ → Result A MshKind) → (ℕ → Result (Unit {0}) MshKind) → SectionEnd → List NumberedLine → Result (List A) MshFault
counted_in read enough end [] = Err (wanting BadLine end)
counted_in read enough end (line ∷ lines) = do
  count ← at_line line.0 (count_of line.1)
  at_line line.0 (enough count)
  entries_in read end count [] lines

-- any number of entries is enough, or one is
abbrev pub any_count : ℕ → Result (Unit {0}) MshKind
any_count count = Ok tt

abbrev pub at_least_one : MshKind → ℕ → Result (Unit {0}) MshKind
at_least_one kind count = check kind (not (count == 0))

-- ---- sections one after another

-- What the sections of a file say, as far as they have been read. There is nothing where a section wasn't there.
pub record FileRead : Type 0 where
  pub has_format : Bool
  pub names : Option (List GroupName)
  -- nodes with their numbers
  pub nodes : Option (List (ℤ × Coordinates))
  pub elements : Option (List RawElement)

abbrev pub nothing_known : FileRead
nothing_known = record { has_format = false; names = None; nodes = None; elements = None }

abbrev pub numbers_of_nodes : List (ℤ × Coordinates) → List ℤ
numbers_of_nodes nodes = map (λ node. node.0) nodes

-- '$MeshFormat' stands once, and before the three others
unfoldable pub with_format : Section → FileRead → Result FileRead MshFault
with_format section file = do
  at_line section.header.0 (check BadLine (not file.has_format))
  format_in section.end section.lines
  Ok (record file { has_format = true })

unfoldable pub with_names : Section → FileRead → Result FileRead MshFault
with_names section file = do
  at_line section.header.0 (check NoFormat file.has_format)
  at_line section.header.0 (check BadLine (not (is_some file.names)))
  names ← counted_in (λ before. name_of) any_count section.end section.lines
  Ok (record file { names = Some names })

unfoldable pub with_nodes : Section → FileRead → Result FileRead MshFault
with_nodes section file = do
  at_line section.header.0 (check NoFormat file.has_format)
  at_line section.header.0 (check BadLine (not (is_some file.nodes)))
  nodes ← counted_in (λ before. node_of (numbers_of_nodes before)) (at_least_one NoNodes) section.end section.lines
  Ok (record file { nodes = Some nodes })

-- '$Elements' stands behind '$Nodes'
unfoldable pub with_elements : Section → FileRead → Result FileRead MshFault
with_elements section file = do
  at_line section.header.0 (check NoFormat file.has_format)
  nodes ← at_line section.header.0 (or_fault NoNodes file.nodes)
  at_line section.header.0 (check BadLine (not (is_some file.elements)))
  elements ← counted_in (λ before. element_of (numbers_of_nodes nodes)) (at_least_one NoElements) section.end section.lines
  Ok (record file { elements = Some elements })

-- a section of another name is skipped up to its end
unfoldable pub skipped : Section → FileRead → Result FileRead MshFault
skipped section file = do
  end_line_in section.end
  Ok file

unfoldable pub with_named : List ℕ → Section → FileRead → Result FileRead MshFault
with_named name section file =
    if bytes_eq name (codes "MeshFormat") then with_format section file
    else (if bytes_eq name (codes "PhysicalNames") then with_names section file
    else (if bytes_eq name (codes "Nodes") then with_nodes section file
    else (if bytes_eq name (codes "Elements") then with_elements section file
    else skipped section file)))

unfoldable pub with_section : Section → FileRead → Result FileRead MshFault
with_section section file = do
  name ← at_line section.header.0 (header_of section.header.1)
  with_named name section file

abbrev pub with_sections : List Section → FileRead → Result FileRead MshFault
with_sections [] file = Ok file
with_sections (section ∷ sections) file = do
  next ← with_section section file
  with_sections sections next

-- ---- a whole file

-- what a file has to have at its end
unfoldable pub mesh_in : FileRead → Result Raw MshKind
mesh_in file = do
  check NoFormat file.has_format
  nodes ← or_fault NoNodes file.nodes
  elements ← or_fault NoElements file.elements
  Ok (record {
    nodes = map (λ node. node.1) nodes;
    tets = filter_map tet_in elements;
    marks = filter_map mark_in elements;
    names = ascending_of name_cmp (unwrap_or file.names []);
  })

unfoldable pub read_of : List ℕ → Result Raw MshFault
read_of bytes = do
  file ← with_sections (sections_of (end_number bytes) (numbered_lines bytes)) nothing_known
  at_line (end_number bytes) (mesh_in file)
