use Rattle.std.proofs.Common.{◌≡◌, drop}
use Rattle.mesh_passes.specs.Taking.{taken_at}
use Rattle.mesh_passes.proofs.choosing.take.Given as goal

abbrev pub invariant-loop-i : goal.invariant-loop-i
invariant-loop-i l = taken_at (drop l.i-index l.at) l.taken ≡ taken_at l.at l.fn.taken
