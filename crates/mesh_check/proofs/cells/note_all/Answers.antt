use Rattle.std.proofs.Common.{◌∙◌, ◌||◌, take}
use Rattle.ma_cells.specs.Ascending.{has}
use Rattle.ma_cells.specs.Cells.{cell_cmp}
use Rattle.ma_cells.proofs.CellOrders.{cell_cmp-IsAntisymmetric, cell_cmp_total}
use Rattle.mesh_check.proofs.FoundCells.{noted_on}
use Rattle.mesh_check.proofs.cells.note_all.Goals as goal

pub loop-cell-preserved : goal.loop-cell-preserved
loop-cell-preserved c = (
  c.note.auto.found ∙ c.loop-cell.invariant.0,
  λ test flags.
      c.note.ensures (λ one. test one || has cell_cmp one (take c.loop-cell.cell-index c.args.cells.now)) (c.loop-cell.invariant.1 test flags)
      ∙ noted_on cell_cmp_total cell_cmp-IsAntisymmetric test c.args.wanted.now c.args.cells.now c.loop-cell.cell-index c.cell-item.result c.loop-cell-test.true c.cell-item.is,
)
