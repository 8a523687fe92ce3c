use Rattle.ma_io.specs.Files.{entry_of}
use Rattle.ma_io.proofs.Entries.{DifferBelow}
use Rattle.ma_io.proofs.mem_depot.names_differ.Given as goal

abbrev pub invariant-loop-place : goal.invariant-loop-place
invariant-loop-place l = DifferBelow entry_of l.files l.place
