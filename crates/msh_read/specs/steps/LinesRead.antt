-- Steps of the code and no promise: the lines of a file one after another, and its end.
use Rattle.std.specs.Prelude.{ℕ, Bool, true, false, List, [], ◌∷◌, Result, Ok}
use Rattle.ma_cells.specs.Ascending.{ascending_of}
use Rattle.ma_text.specs.Lines.{numbered_lines, end_number}
use Rattle.msh_read.specs.declared.fault.MshFault.{MshFault}
use Rattle.msh_read.specs.declared.fault.MshKind.{MshKind}
use Rattle.msh_read.specs.declared.fault.MshKind.TheVariants.{NoFormat, Truncated, NoNodes, NoElements}
use Rattle.msh_read.specs.declared.stand.Stand.{Stand}
use Rattle.msh_read.specs.declared.stand.Stand.TheVariants.{Outside}
use Rattle.msh_read.specs.GroupNames.{name_cmp}
use Rattle.msh_read.specs.Raw.{Raw}
use Rattle.msh_read.specs.Reading.{at_line}
use Rattle.msh_read.specs.Sections.{NumberedLine}
use Rattle.msh_read.specs.Trying.{◌>>=◌, ◌>>◌, check}
use Rattle.msh_read.specs.steps.Front.{Front, nothing_read}
use Rattle.msh_read.specs.steps.LineByLine.{step}

-- the front with all these lines behind it
abbrev pub after : Front → List NumberedLine → Result Front MshFault
after front [] = Ok front
after front (line ∷ lines) = do
  next ← at_line line.0 (step front line.1)
  after next lines

abbrev pub is_outside : Stand → Bool
is_outside Outside = true
is_outside stand = false

-- where a file may end
abbrev pub may_end : Front → Result (Unit {0}) MshKind
may_end front = do
  check Truncated (is_outside front.stand)
  check NoFormat front.has_format
  check NoNodes front.has_nodes
  check NoElements front.has_elements

-- what all lines say
abbrev pub mesh_said : Front → Raw
mesh_said front = record { nodes = front.nodes; tets = front.tets; marks = front.marks; names = ascending_of name_cmp front.names }

unfoldable pub end_of : Front → Result Raw MshKind
end_of front = do
  may_end front
  Ok (mesh_said front)

unfoldable pub read_by_lines : List ℕ → Result Raw MshFault
read_by_lines bytes = do
  front ← after nothing_read (numbered_lines bytes)
  at_line (end_number bytes) (end_of front)
