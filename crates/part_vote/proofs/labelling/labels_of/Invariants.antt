use Rattle.std.proofs.Common.{◌≡◌, ◌++◌, drop, map}
use Rattle.part_vote.specs.Leading.{cavity_labels}
use Rattle.part_vote.proofs.labelling.labels_of.Given as goal

-- those so far, and those of the operations that are left
abbrev pub invariant-loop-op : goal.invariant-loop-op
invariant-loop-op l = l.labels.items ++ map (cavity_labels l.cavities) (drop l.op-index l.ops) ≡ map (cavity_labels l.cavities) l.ops
