use Rattle.std.proofs.Common.{sym, subst, ◌∙◌, ap}
use Rattle.ma_cells.specs.Grid.{IsGreatest, are_on_grid, greatest}
use Rattle.mesh_check.proofs.GreatestGrid.{grid_is_greatest}
use Rattle.mesh_check.proofs.grids.grid.Goals as goal

pub returns-clause-greatest : goal.returns-clause-greatest
returns-clause-greatest c =
    subst (λ k. IsGreatest 30 (λ k. are_on_grid k c.args.mesh.now.tets) k) (sym (c.grid_up_to.ensures ∙ ap (λ tets. greatest 30 (λ k. are_on_grid k tets)) c.tets.ensures.value))
    (grid_is_greatest c.args.mesh.now.tets)
