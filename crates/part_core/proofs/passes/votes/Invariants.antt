use Rattle.std.proofs.Common.{◌≡◌, ◌++◌}
use Rattle.round_rules.specs.Bodies.{votes_in}
use Rattle.part_core.proofs.passes.votes.Given as goal

-- those so far, and those among the letters that are left
abbrev pub invariant-loop-sender : goal.invariant-loop-sender
invariant-loop-sender l = l.lists.items ++ votes_in l.sender-iterator ≡ votes_in l.inbox
