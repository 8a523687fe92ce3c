use Rattle.std.proofs.Common.{◌≡◌, ◌≤◌}
use Rattle.part_phases.specs.Inboxes.{missing}
use Rattle.part_core.proofs.inbox.Inbox.missing.Given as goal

abbrev pub invariant-loop-n : goal.invariant-loop-n
invariant-loop-n l = (l.count ≡ missing l.n l.me l.self) × (l.count ≤ l.n)
