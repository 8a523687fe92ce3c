use Rattle.std.proofs.Common.{◌≡◌, ◌++◌, drop}
use Rattle.pass_letters.proofs.listed.push_all.Given as goal

-- those so far, and the operations that are left
abbrev pub invariant-loop-op : goal.invariant-loop-op
invariant-loop-op l = l.into.items ++ drop l.op-index l.ops ≡ l.fn.into.items ++ l.ops
