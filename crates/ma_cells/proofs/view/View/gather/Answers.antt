use Rattle.std.proofs.Common.{ap, ◌∙◌, subst, sym}
use Rattle.std.specs.FinMap.{IsAntisymmetric}
use Rattle.ma_cells.specs.Ascending.{ascending_of}
use Rattle.ma_cells.proofs.CellOrders.{derived_mark_cmp, ghost_cmp-IsAntisymmetric, mark_cmp-IsAntisymmetric, tet_cmp-IsAntisymmetric}
use Rattle.ma_cells.proofs.view.View.gather.Goals as goal

pub returns-clause-own : goal.returns-clause-own
returns-clause-own c = c.gather.ensures.is tet_cmp-IsAntisymmetric

pub returns-clause-ghosts : goal.returns-clause-ghosts
returns-clause-ghosts c = c.gather-2.ensures.is ghost_cmp-IsAntisymmetric

pub returns-clause-marks : goal.returns-clause-marks
returns-clause-marks c =
    c.gather-3.ensures.is (subst (λ R. IsAntisymmetric R) (sym derived_mark_cmp) mark_cmp-IsAntisymmetric) ∙ ap (λ R. ascending_of R c.args.marks.items) derived_mark_cmp
