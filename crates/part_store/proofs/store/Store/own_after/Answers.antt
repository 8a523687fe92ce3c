use Rattle.std.proofs.Common.{IfOk, ◌≡◌, ◌∙◌, ◌++◌, subst}
use Rattle.ma_cells.specs.Ascending.{ascending_of}
use Rattle.ma_cells.specs.Tetrahedron.{tet_cmp}
use Rattle.part_store.specs.Stores.{own_after}
use Rattle.part_store.proofs.Gathered.{without_set}
use Rattle.part_store.proofs.store.Store.own_after.Goals as goal

pub returns : goal.returns
returns c =
    subst (λ s. IfOk c.union.result (λ own. own ≡ own_after s c.args.ended.now c.args.added.now)) c.self.view_is
    (subst (λ rest. IfOk c.union.result (λ own. own ≡ ascending_of tet_cmp (rest ++ c.args.added.now.tets)))
    (c.in_ok-rest.ensures ∙ without_set _ c.args.ended.now c.in_ok-from_slice.field-0.items c.tet_set-ended.result c.in_ok-from_slice.ensures.items c.tet_set-ended.ensures) c.union.ensures)
