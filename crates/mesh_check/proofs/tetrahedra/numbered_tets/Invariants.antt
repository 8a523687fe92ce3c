use Rattle.std.proofs.Common.{◌≡◌, ◌+◌, drop}
use Rattle.msh_read.specs.Trying.{each}
use Rattle.msh_read.proofs.Each.{behind}
use Rattle.mesh_check.specs.Pairs.{numbered_from}
use Rattle.mesh_check.specs.steps.Tetrahedra.{numbered_tet}
use Rattle.mesh_check.proofs.tetrahedra.numbered_tets.Given as goal

abbrev pub invariant-loop-index : goal.invariant-loop-index
invariant-loop-index l = behind l.tetrahedra.items (each (numbered_tet l.nodes l.shift) (numbered_from (l.index + 1) (drop l.index l.tets))) ≡ each (numbered_tet l.nodes l.shift) (numbered_from 1 l.tets)
