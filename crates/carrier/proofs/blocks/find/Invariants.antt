use Rattle.std.proofs.Common.{◌≡◌, ◌+◌, length, take}
use Rattle.carrier.specs.steps.Kept.{all_of}
use Rattle.carrier.proofs.blocks.find.Given as goal

-- the letters of the blocks before, and what is left of the place
abbrev pub invariant-loop-number : goal.invariant-loop-number
invariant-loop-number l = l.place ≡ length (all_of (take l.number l.blocks)) + l.left
