-- What the code asks of marks, by the numbers of operations in their list. No public contract names these.
use Rattle.std.specs.Prelude.{ℕ, ◌+◌, min, Bool, false, List, [], ◌∷◌, take, drop, Option, Some, None, if◌then◌else◌}
use Rattle.std.specs.BTreeMap.{insert_entry, is_at}
use Rattle.std.specs.List.{flat_map}
use Rattle.std.specs.Map.{lookup}
use Rattle.ma_geom.specs.Coordinates.{Coordinates, place_cmp}
use Rattle.ma_cells.specs.Ascending.{has}
use Rattle.ma_cells.specs.Cells.{CellMark}
use Rattle.cavity_rank.specs.Operations.{Operation}
use Rattle.cavity_collapse.specs.Collapsing.{moved_mark}

-- whether an operation at these places collapses one of the corners
abbrev pub collapses_one : List Coordinates → List Coordinates → Bool
collapses_one (a ∷ []) corners = has place_cmp a corners
collapses_one at corners = false

-- the number, counted from k, of the first operation that collapses one of the corners
abbrev pub first_from : ℕ → List Coordinates → List Operation → Option ℕ
first_from k corners [] = None
first_from k corners (op ∷ ops) = if collapses_one op.at corners then Some k else first_from (k + 1) corners ops

-- a table with the number of an operation at these places, if that is a collapse
abbrev pub numbered : List Coordinates → ℕ → List (Coordinates × ℕ) → List (Coordinates × ℕ)
numbered (a ∷ []) k table = insert_entry place_cmp table a k
numbered at k table = table

-- for each vertex that is collapsed, the number, counted from k, of the first operation that does it
abbrev pub firsts_from : ℕ → List Operation → List (Coordinates × ℕ)
firsts_from k [] = []
firsts_from k (op ∷ ops) = numbered op.at k (firsts_from (k + 1) ops)

-- the lesser of two numbers that there may be
abbrev pub lesser : Option ℕ → Option ℕ → Option ℕ
lesser (Some m) (Some n) = Some (min m n)
lesser (Some m) None = Some m
lesser None n = n

-- the least number in the table at one of the corners
abbrev pub first_at : List (Coordinates × ℕ) → List Coordinates → Option ℕ
first_at table [] = None
first_at table (p ∷ corners) = lesser (lookup (is_at (place_cmp p)) table) (first_at table corners)

-- a mark as a collapse of one of its corners leaves it
abbrev pub moved_at : List Coordinates → Coordinates → CellMark → List CellMark
moved_at (a ∷ []) v mark = moved_mark a v mark
moved_at at v mark = mark ∷ []

-- a mark as the operation with this number leaves it
abbrev pub moved_by : Option ℕ → List Operation → CellMark → List CellMark
moved_by (Some i) ops mark = flat_map (λ op. moved_at op.at op.apex mark) (take 1 (drop i ops))
moved_by None ops mark = mark ∷ []
