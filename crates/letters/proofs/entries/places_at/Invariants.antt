use Rattle.std.proofs.Common.{◌≡◌, ◌-◌, length}
use Rattle.std.specs.Prelude.{None}
use Rattle.letters.specs.Fields.{place, place_before}
use Rattle.letters.specs.Grammar.{entries_at}
use Rattle.letters.proofs.Looping.{rest_of}
use Rattle.letters.proofs.entries.places_at.Given as goal

abbrev pub invariant-loop : goal.invariant-loop
invariant-loop l = record {
  rest : rest_of place_before place l.end l.places.items (l.count - l.counter) l.rest ≡ entries_at place_before place l.end l.bytes None l.count;
  count : length l.places.items ≡ l.counter;
}
