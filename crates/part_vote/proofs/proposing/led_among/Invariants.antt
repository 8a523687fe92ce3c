use Rattle.std.proofs.Common.{◌≡◌, ◌++◌, drop, filter}
use Rattle.part_vote.specs.Leading.{leads}
use Rattle.part_vote.proofs.proposing.led_among.Given as goal

-- those so far, and those of the operations that are left
abbrev pub invariant-loop-op : goal.invariant-loop-op
invariant-loop-op l = l.led.items ++ filter (leads l.cavities l.part) (drop l.op-index l.ops) ≡ filter (leads l.cavities l.part) l.ops
