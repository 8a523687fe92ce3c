use Rattle.std.proofs.Common.{◌≡◌, Bool, ◌||◌, length, take}
use Rattle.std.specs.Prelude.{map}
use Rattle.ma_cells.specs.Ascending.{has}
use Rattle.ma_cells.specs.Cells.{cell_cmp}
use Rattle.ma_cells.specs.declared.cell.Cell.{Cell}
use Rattle.mesh_check.proofs.cells.note_all.Given as goal

abbrev pub invariant-loop-cell : goal.invariant-loop-cell
invariant-loop-cell l =
    (length l.found ≡ length l.wanted)
    × ((test : Cell → Bool) → l.initial.found ≡ map test l.wanted → l.found ≡ map (λ one. test one || has cell_cmp one (take l.cell-index l.cells)) l.wanted)
