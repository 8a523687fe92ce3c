use Rattle.std.proofs.Common.{◌≡◌, drop}
use Rattle.world_run.specs.Replay.{first_waiting}
use Rattle.world_run.proofs.running.first_waiting.Given as goal

-- none of the parts so far waits
abbrev pub invariant-loop-part : goal.invariant-loop-part
invariant-loop-part l = first_waiting (drop l.part-index l.parts) ≡ first_waiting l.parts
