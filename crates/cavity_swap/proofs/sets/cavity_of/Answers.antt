use Rattle.std.proofs.Common.{sym, subst, take, ◌∙◌}
use Rattle.std.specs.List.Sorted.{IsStrictlySortedBy}
use Rattle.ma_cells.specs.Tetrahedron.{tet_cmp}
use Rattle.ma_cells.proofs.Ascents.{sorted-ascending_of}
use Rattle.ma_cells.proofs.CellOrders.{tet_cmp-IsAntisymmetric, tet_cmp_total}
use Rattle.cavity_swap.proofs.Growing.{next_in, too_long}
use Rattle.cavity_swap.proofs.sets.cavity_of.Goals as goal

pub put-requires : goal.put-requires
put-requires c = subst (IsStrictlySortedBy tet_cmp) (sym c.loop-tet.invariant) (sorted-ascending_of tet_cmp_total (take c.loop-tet.tet-index c.args.star.now))

pub returns-then-not-put : goal.returns-then-not-put
returns-then-not-put c = too_long tet_cmp_total tet_cmp-IsAntisymmetric c.args.star.now c.loop-tet.tet-index 7 c.tet-item.result c.loop-tet.cavity.items c.loop-tet-test.true c.tet-item.is c.loop-tet.invariant (c.put.ensures.full c.if-not-put.true)

pub loop-tet-preserved : goal.loop-tet-preserved
loop-tet-preserved c =
    c.put.ensures.put c.if-not-put.false ∙ sym (next_in tet_cmp_total tet_cmp-IsAntisymmetric c.args.star.now c.loop-tet.tet-index c.tet-item.result c.loop-tet.cavity.items c.loop-tet-test.true c.tet-item.is c.loop-tet.invariant)
