use Rattle.std.proofs.Common.{◌≡◌, ◌++◌, drop, map}
use Rattle.ghost_layer.specs.GhostRule.{near}
use Rattle.ghost_layer.proofs.rebuilding.all_near.Given as goal

-- those so far, and those of the batches that are left
abbrev pub invariant-loop-batch : goal.invariant-loop-batch
invariant-loop-batch l = l.kept.items ++ map (near l.corners) (drop l.batch-index l.got) ≡ map (near l.corners) l.got
