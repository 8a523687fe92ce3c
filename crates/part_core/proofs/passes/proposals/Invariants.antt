use Rattle.std.proofs.Common.{◌≡◌, ◌++◌}
use Rattle.round_rules.specs.Bodies.{proposals_in}
use Rattle.part_core.proofs.passes.proposals.Given as goal

-- those so far, and those among the letters that are left
abbrev pub invariant-loop-sender : goal.invariant-loop-sender
invariant-loop-sender l = l.lists.items ++ proposals_in l.sender-iterator ≡ proposals_in l.inbox
