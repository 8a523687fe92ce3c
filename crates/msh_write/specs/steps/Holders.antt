-- Steps of the code and no promise: the marked cells of tetrahedra, each with who has it.
use Rattle.std.specs.Prelude.{ℕ, ℤ, Bool, if◌then◌else◌, List, [], Option, None, map}
use Rattle.std.specs.declared.cmp.Ordering.{Ordering}
use Rattle.std.specs.List.{filter, flat_map}
use Rattle.std.specs.Option.{option_cmp, unwrap_or}
use Rattle.std.specs.Ordering.{eq_by_cmp, nat_cmp, ordering_then}
use Rattle.ma_cells.specs.Ascending.{ascending_of, has}
use Rattle.ma_cells.specs.Cells.{CellMark, cell_cmp}
use Rattle.ma_cells.specs.Incidence.{cells_of}
use Rattle.ma_cells.specs.declared.cell.Cell.{Cell}
use Rattle.msh_write.specs.PartText.{Member, resident_tags}
use Rattle.msh_write.specs.Text.{Element, mark_element}

-- a cell, and None or the label of a tetrahedron that has it
abbrev pub Holder : Type 0
Holder = Cell × Option ℕ

abbrev pub holder_cmp : Holder → Holder → Ordering
holder_cmp h k = ordering_then (cell_cmp h.0 k.0) (option_cmp nat_cmp h.1 k.1)

-- the cells that have a mark
abbrev pub marked_cells : List CellMark → List Cell
marked_cells marks = ascending_of cell_cmp (map (λ mark. mark.cell) marks)

abbrev pub is_among : List Cell → Cell → Bool
is_among cells cell = has cell_cmp cell cells

-- those of these cells that a tetrahedron has
abbrev pub holders_by : List Cell → Member → List Holder
holders_by cells m = map (λ cell. (cell, m.1)) (filter (is_among cells) (cells_of m.0.corners))

abbrev pub holders_of : List Cell → List Member → List Holder
holders_of cells members = ascending_of holder_cmp (flat_map (holders_by cells) members)

abbrev pub is_of : Cell → Holder → Bool
is_of cell h = eq_by_cmp cell_cmp cell h.0

-- the tags of a cell, by who has it
abbrev pub holder_tags : ℕ → List Holder → Cell → List ℤ
holder_tags part holders cell =
    if has holder_cmp (cell, None) holders then resident_tags (ascending_of nat_cmp (map (λ h. unwrap_or h.1 part) (filter (is_of cell) holders))) else []

abbrev pub holder_element : ℕ → List Holder → CellMark → Element
holder_element part holders mark = mark_element (holder_tags part holders mark.cell) mark
