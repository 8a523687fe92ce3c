use Rattle.std.proofs.Common.{◌≡◌, drop}
use Rattle.round_rules.specs.Bodies.{sent_by}
use Rattle.part_core.proofs.passes.sent_by.Given as goal

-- what the lists that are left have of the sender
abbrev pub invariant-loop-list : goal.invariant-loop-list
invariant-loop-list l = sent_by (drop l.list-index l.lists) l.sender ≡ sent_by l.lists l.sender
