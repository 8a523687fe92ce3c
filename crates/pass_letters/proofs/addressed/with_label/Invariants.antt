use Rattle.std.proofs.Common.{◌≡◌, ◌++◌, drop}
use Rattle.pass_letters.specs.Sending.{addressed_to}
use Rattle.pass_letters.proofs.addressed.with_label.Given as goal

-- those so far, and those of the entries that are left
abbrev pub invariant-loop-entry : goal.invariant-loop-entry
invariant-loop-entry l = l.ops.items ++ addressed_to (record { entries = drop l.entry-index l.entries }) l.part ≡ addressed_to (record { entries = l.entries }) l.part
