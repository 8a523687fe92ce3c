use Rattle.std.proofs.Common.{◌≡◌, ◌++◌, drop}
use Rattle.std.specs.List.{flat_map}
use Rattle.part_gather.specs.Gathering.{cavity}
use Rattle.part_gather.proofs.cavities.push_cavities.Given as goal

-- those so far, and the cavities of the operations that are left
abbrev pub invariant-loop-op : goal.invariant-loop-op
invariant-loop-op l = l.into.items ++ flat_map (cavity l.tets) (drop l.op-index l.ops) ≡ l.fn.into.items ++ flat_map (cavity l.tets) l.ops
