use Rattle.mesh_check.proofs.grids.+grid_up_to.Given as goal

abbrev pub decreases-grid_up_to : goal.decreases-grid_up_to
decreases-grid_up_to l = l.exponent
