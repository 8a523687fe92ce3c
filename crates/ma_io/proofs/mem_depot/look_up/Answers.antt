use Rattle.std.proofs.Common.{sym, ap, ◌∙◌, Some}
use Rattle.ma_io.specs.Files.{entry_of}
use Rattle.ma_io.proofs.Entries.{get-place, get-absent}
use Rattle.ma_io.proofs.mem_depot.look_up.Goals as goal

pub returns-in-Some : goal.returns-in-Some
returns-in-Some c =
    ap Some c.as_slice.ensures.value
    ∙ sym (get-place entry_of c.args.name.now c.args.entries.now c.in-Some.place c.index-entries-place.result (sym c.in-Some.ensures))

pub returns-in-None : goal.returns-in-None
returns-in-None c = sym (get-absent entry_of c.args.name.now c.args.entries.now (sym c.in-None.ensures))
