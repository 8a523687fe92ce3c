use Rattle.std.proofs.Common.{◌≡◌, ◌++◌}
use Rattle.round_rules.specs.Bodies.{orders_in}
use Rattle.part_core.proofs.passes.orders.Given as goal

-- those so far, and those among the letters that are left
abbrev pub invariant-loop-sender : goal.invariant-loop-sender
invariant-loop-sender l = l.lists.items ++ orders_in l.sender-iterator ≡ orders_in l.inbox
