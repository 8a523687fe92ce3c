use Rattle.std.proofs.Common.{ap, ◌∙◌, arith, map, subst, sym}
use Rattle.std.specs.FinMap.{IsAntisymmetric}
use Rattle.std.proofs.lemmas.List.{take_all}
use Rattle.ma_cells.specs.Ascending.{ascending_of}
use Rattle.ma_cells.specs.Cells.{cell_cmp}
use Rattle.ma_cells.proofs.CellOrders.{cell_cmp-IsAntisymmetric, derived_cells}
use Rattle.msh_write.proofs.holders.marked_cells.Goals as goal

pub returns : goal.returns
returns c =
    c.gather.ensures.is (subst (λ R. IsAntisymmetric R) (sym derived_cells) cell_cmp-IsAntisymmetric)
    ∙ ap (λ R. ascending_of R c.loop-mark.cells.items) derived_cells
    ∙ ap (ascending_of cell_cmp) (c.loop-mark.invariant ∙ ap (map (λ mark. mark.cell)) (take_all c.loop-mark.mark-index c.args.marks.now (omega arith)))
