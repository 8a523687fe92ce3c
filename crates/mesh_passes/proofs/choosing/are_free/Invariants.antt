use Rattle.std.proofs.Common.{◌≡◌, drop}
use Rattle.mesh_passes.specs.Taking.{are_free}
use Rattle.mesh_passes.proofs.choosing.are_free.Given as goal

abbrev pub invariant-loop-i : goal.invariant-loop-i
invariant-loop-i l = are_free l.taken l.at ≡ are_free l.taken (drop l.i-index l.at)
