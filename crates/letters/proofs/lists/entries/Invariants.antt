use Rattle.std.proofs.Common.{◌≡◌, ◌-◌}
use Rattle.std.specs.Prelude.{None}
use Rattle.letters.specs.Grammar.{entries_at}
use Rattle.letters.proofs.Looping.{rest_of}
use Rattle.letters.proofs.lists.entries.Given as goal

abbrev pub invariant-loop : goal.invariant-loop
invariant-loop g l = rest_of g.T.Entry.before g.T.Entry.grammar l.end l.items.items (l.count - l.counter) l.rest ≡ entries_at g.T.Entry.before g.T.Entry.grammar l.end l.bytes None l.count
