use Rattle.std.proofs.Common.{◌≡◌, ◌++◌, drop}
use Rattle.part_core.proofs.passes.copied_list.Given as goal

-- those so far, and those that are left
abbrev pub invariant-loop-op : goal.invariant-loop-op
invariant-loop-op l = l.copy.items ++ drop l.op-index l.ops ≡ l.ops
