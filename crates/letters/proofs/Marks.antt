-- Marks as they are read and put.
use Rattle.std.proofs.Common.{◌≡◌, ◌≤◌, true, List, [], ◌∷◌, length, Option, Some, refl, arith}
use Rattle.std.specs.Prelude.{ℤ}
use Rattle.ma_geom.specs.Coordinates.{Coordinates, place_cmp}
use Rattle.ma_cells.specs.Ascending.{are_ascending}
use Rattle.ma_cells.specs.Cells.{CellMark, cell_of, cell_on}
use Rattle.ma_cells.specs.declared.cell.Cell.{Cell}
use Rattle.ma_cells.proofs.Cornered.{distinct-ascending}
use Rattle.ma_cells.proofs.Corners.{ascending_is}
use Rattle.letters.specs.Entries.{cell_at}

on_few : (corners : List Coordinates) → 1 ≤ length corners → length corners ≤ 3 → cell_on corners ≡ Some (cell_at corners)
on_few [] h k = absurd (omega arith)
on_few (a ∷ []) h k = refl
on_few (a ∷ b ∷ []) h k = refl
on_few (a ∷ b ∷ c ∷ []) h k = refl
on_few (a ∷ b ∷ c ∷ d ∷ corners) h k = absurd (omega arith)

-- the cell with one to three corners that ascend
pub cell_is : (corners : List Coordinates) → 1 ≤ length corners → length corners ≤ 3 → are_ascending place_cmp corners ≡ true → cell_of corners ≡ Some (cell_at corners)
cell_is corners h k rises = rw (distinct-ascending corners rises, ascending_is corners rises) (on_few corners h k)

abbrev found : Cell → Option Cell
found cell = Some cell

pub mark_is : (corners : List Coordinates) (cell : Cell) (phys elem p e : ℤ) (made : CellMark) → found cell ≡ Some (cell_at corners) → p ≡ phys → e ≡ elem
    → made ≡ record { cell = cell; phys = p; elem = e } → made ≡ record { cell = cell_at corners; phys = phys; elem = elem }
mark_is corners cell phys elem p e made h f g k = cc
