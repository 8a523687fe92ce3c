use Rattle.std.proofs.Common.{◌≡◌, ℕ, List, ◌++◌}
use Rattle.std.specs.Io.KnownBytes.{Appends}
use Rattle.ma_io.proofs.streams.write_whole.Given as goal

-- the bytes written so far, and the rest
abbrev pub invariant-loop : goal.invariant-loop
invariant-loop g l = (sent : List ℕ) × (sent ++ l.rest ≡ l.bytes) × Appends (g.W.Write.contents l.fn.to) (g.W.Write.contents l.to) sent
