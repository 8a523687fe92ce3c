use Rattle.std.proofs.Common.{◌≡◌, take}
use Rattle.ma_cells.specs.Ascending.{ascending_of}
use Rattle.ma_cells.specs.Tetrahedron.{tet_cmp}
use Rattle.cavity_swap.proofs.sets.cavity_of.Given as goal

abbrev pub invariant-loop-tet : goal.invariant-loop-tet
invariant-loop-tet l = l.cavity.items ≡ ascending_of tet_cmp (take l.tet-index l.star)
