use Rattle.std.proofs.Common.{ap, ◌∙◌, subst, sym}
use Rattle.std.specs.FinMap.{IsAntisymmetric}
use Rattle.ma_cells.specs.Ascending.{ascending_of}
use Rattle.ma_cells.proofs.CellOrders.{derived_mark_cmp, mark_cmp-IsAntisymmetric}
use Rattle.mesh_check.proofs.marks.mark_set.Goals as goal

pub returns : goal.returns
returns c =
    c.gather.ensures.is (subst (λ R. IsAntisymmetric R) (sym derived_mark_cmp) mark_cmp-IsAntisymmetric) ∙ ap (λ R. ascending_of R c.args.marks.items) derived_mark_cmp
