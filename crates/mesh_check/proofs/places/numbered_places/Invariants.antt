use Rattle.std.proofs.Common.{◌≡◌, drop}
use Rattle.msh_read.specs.Trying.{each}
use Rattle.msh_read.proofs.Each.{behind}
use Rattle.mesh_check.specs.steps.ShiftedPlaces.{numbered_place}
use Rattle.mesh_check.proofs.places.numbered_places.Given as goal

abbrev pub invariant-loop-at : goal.invariant-loop-at
invariant-loop-at l = behind l.items.items (each (numbered_place l.nodes l.shift) (drop l.at-index l.positions)) ≡ each (numbered_place l.nodes l.shift) l.positions
