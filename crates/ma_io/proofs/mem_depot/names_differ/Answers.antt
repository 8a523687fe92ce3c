use Rattle.std.proofs.Common.{sym, arith, rules}
use Rattle.ma_io.specs.Files.{entry_of}
use Rattle.ma_io.proofs.Entries.{differ_one_more, differ_no_more}
use Rattle.ma_io.proofs.mem_depot.names_differ.Goals as goal

pub returns-then-is_some : goal.returns-then-is_some
returns-then-is_some c =
    let repeated = rw (c.find_entry.ensures, c.as_str.ensures.value) at (sym c.if-is_some.ensures) in
    (λ untrue. search rules, λ differ. absurd (differ_no_more entry_of c.args.files.now c.loop-place.place c.index-files-place.result c.index-files-place.is c.loop-place-test.true repeated differ))

pub loop-place-preserved : goal.loop-place-preserved
loop-place-preserved c =
    let new = rw (c.find_entry.ensures, c.as_str.ensures.value) at (sym c.if-is_some.ensures) in
    differ_one_more entry_of c.args.files.now c.loop-place.place c.index-files-place.result c.index-files-place.is c.loop-place-test.true c.loop-place.invariant new

pub returns : goal.returns
returns c = (λ _ i j d below l. c.loop-place.invariant j (omega arith) i d below, λ _. search rules)
