use Rattle.std.proofs.Common.{◌≡◌, ◌++◌}
use Rattle.round_rules.specs.Bodies.{deliveries_in}
use Rattle.part_core.proofs.passes.deliveries.Given as goal

-- those so far, and those among the letters that are left
abbrev pub invariant-loop-sender : goal.invariant-loop-sender
invariant-loop-sender l = l.got.items ++ deliveries_in l.sender-iterator ≡ deliveries_in l.fn.inbox
