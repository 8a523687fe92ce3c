use Rattle.std.proofs.Common.{◌≡◌, take}
use Rattle.ma_cells.specs.Meshes.{corner_sets}
use Rattle.mesh_check.specs.Pairs.{numbered_from}
use Rattle.mesh_check.proofs.tetrahedra.numbered_corners.Given as goal

abbrev pub invariant-loop-index : goal.invariant-loop-index
invariant-loop-index l = l.sets.items ≡ numbered_from 1 (corner_sets (take l.index l.tetrahedra))
