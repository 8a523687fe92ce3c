-- Lines of '$Elements': 'NUMBER TYPE TAGS TAG.. NODE..'.
use Rattle.std.specs.Prelude.{ℕ, ◌+◌, Bool, true, not, ◌==◌, ◌&&◌, if◌then◌else◌, ℤ, pos, List, [], ◌∷◌, length, take, drop, slice_index_or, position, Option, Some, None, Result, Ok, Err}
use Rattle.std.specs.List.{list_any, list_all}
use Rattle.std.specs.Ordering.{int_eq}
use Rattle.ma_text.specs.Words.{words_of}
use Rattle.msh_read.specs.declared.fault.MshKind.{MshKind}
use Rattle.msh_read.specs.declared.fault.MshKind.TheVariants.{BadLine, NoSuchNode, OtherKind}
use Rattle.msh_read.specs.declared.raw.RawMark.{RawMark}
use Rattle.msh_read.specs.declared.raw.RawTet.{RawTet}
use Rattle.msh_read.specs.Lines.{number_in_word, is_number, is_tag, natural}
use Rattle.msh_read.specs.Trying.{◌>>=◌, ◌>>◌, check, or_fault, each}

-- an element is a tetrahedron or a mark
pub data RawElement : Type 0 where
  a_tet : RawTet → RawElement
  a_mark : RawMark → RawElement

abbrev pub tet_in : RawElement → Option RawTet
tet_in (a_tet tet) = Some tet
tet_in (a_mark mark) = None

abbrev pub mark_in : RawElement → Option RawMark
mark_in (a_tet tet) = None
mark_in (a_mark mark) = Some mark

-- how many nodes an element of the type has: a point, a line, a triangle or a tetrahedron
abbrev pub nodes_of_kind : ℤ → Option ℕ
nodes_of_kind kind =
    if int_eq kind (pos 15) then Some 1
    else (if int_eq kind (pos 1) then Some 2
    else (if int_eq kind (pos 2) then Some 3
    else (if int_eq kind (pos 4) then Some 4
    else None)))

-- whether no number stands twice
abbrev pub are_different : List ℤ → Bool
are_different [] = true
are_different (x ∷ xs) = not (list_any (int_eq x) xs) && are_different xs

-- the position, from 0, of the node with this number among all nodes
abbrev pub position_of : List ℤ → ℤ → Result ℕ MshKind
position_of known number = or_fault NoSuchNode (position (int_eq number) known)

-- the positions of an element's nodes
unfoldable pub positions_of : List ℤ → List ℤ → Result (List ℕ) MshKind
positions_of known nodes = do
  at ← each (position_of known) nodes
  check BadLine (are_different nodes)
  Ok at

-- the tag at a position from 0, which is 0 where there is none
abbrev pub tag_of : List ℤ → ℕ → ℤ
tag_of tags index = slice_index_or tags index (pos 0)

-- four nodes make a tetrahedron, fewer a mark
abbrev pub element_with : List ℤ → List ℕ → RawElement
element_with tags at =
    if length at == 4 then a_tet (record { at = at; phys = tag_of tags 0; elem = tag_of tags 1 })
    else a_mark (record { at = record { items = at }; phys = tag_of tags 0; elem = tag_of tags 1 })

-- an element by its tags and its nodes' numbers
unfoldable pub element_by : List ℤ → List ℤ → List ℤ → Result RawElement MshKind
element_by known tags nodes = do
  check BadLine (list_all is_tag tags)
  at ← positions_of known nodes
  Ok (element_with tags at)

-- an element by the type, the number of tags, and the numbers behind it
unfoldable pub element_at : List ℤ → ℤ → ℕ → List ℤ → Result RawElement MshKind
element_at known kind tags numbers = do
  nodes ← or_fault (OtherKind kind) (nodes_of_kind kind)
  check BadLine (length numbers == tags + nodes)
  element_by known (take tags numbers) (drop tags numbers)

-- an element by the numbers of its line
abbrev pub element_from : List ℤ → List ℤ → Result RawElement MshKind
element_from known (number ∷ kind ∷ tags ∷ numbers) = do
  check BadLine (is_number number)
  count ← or_fault BadLine (natural tags)
  element_at known kind count numbers
element_from known numbers = Err BadLine

-- the numbers of a line
unfoldable pub numbers_of : List ℕ → Result (List ℤ) MshKind
numbers_of line = each number_in_word (words_of line)

-- the element that a line has, where the nodes have these numbers
unfoldable pub element_of : List ℤ → List ℕ → Result RawElement MshKind
element_of known line = do
  numbers ← numbers_of line
  element_from known numbers
