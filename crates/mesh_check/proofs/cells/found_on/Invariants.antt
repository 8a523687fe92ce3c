use Rattle.std.proofs.Common.{◌≡◌, take}
use Rattle.std.specs.Prelude.{map}
use Rattle.ma_cells.specs.Incidence.{is_on}
use Rattle.mesh_check.proofs.cells.found_on.Given as goal

abbrev pub invariant-loop-tet : goal.invariant-loop-tet
invariant-loop-tet l = l.found.items ≡ map (is_on (take l.tet-index l.tets)) l.wanted
