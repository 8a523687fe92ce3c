use Rattle.std.proofs.Common.{◌≡◌, drop}
use Rattle.mesh_passes.specs.Marking.{firsts_from}
use Rattle.mesh_passes.proofs.marks.firsts.Given as goal

-- the table of the operations from the last one back to this
abbrev pub invariant-loop-i : goal.invariant-loop-i
invariant-loop-i l = l.firsts.entries ≡ firsts_from l.i (drop l.i l.ops)
