use Rattle.std.proofs.Common.{sym, ap, string_bytes}
use Rattle.ma_io.specs.Files.{entry_of}
use Rattle.ma_io.proofs.Entries.{insert-place, insert-absent}
use Rattle.ma_io.proofs.mem_depot.put_entry.Goals as goal

pub returns-in-Some-clause-ok : goal.returns-in-Some-clause-ok
returns-in-Some-clause-ok c =
    let at = rw c.as_slice.ensures.value at (sym c.in-Some.ensures) in
    let place = c.index_mut.result.now in
    insert-place entry_of c.args.name.now c.args.entries.now.items c.in-Some.place place (place.0, c.args.bytes) at (ap (λ file. string_bytes file.0) c.index_mut.ensures.value)

pub returns-in_ok-push-in-None-clause-ok : goal.returns-in_ok-push-in-None-clause-ok
returns-in_ok-push-in-None-clause-ok c =
    let name = c.in_ok-name-in-None.name in
    let none = rw (c.as_slice.ensures.value, ← c.in_ok-name-in-None.ensures.ok) at (sym c.in-None.ensures) in
    rw (c.in_ok-push-in-None.ensures.items, ← c.in_ok-name-in-None.ensures.ok)
    (insert-absent entry_of c.args.entries.now.items (name, c.args.bytes) none)
