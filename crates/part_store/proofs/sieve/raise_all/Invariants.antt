use Rattle.std.proofs.Common.{◌≡◌, ◌<◌, drop, length}
use Rattle.part_store.specs.steps.Sieves.{raised}
use Rattle.part_store.proofs.sieve.raise_all.Given as goal

-- the flags so far, with those of the places that are left
abbrev pub invariant-loop-place : goal.invariant-loop-place
invariant-loop-place l = (0 < length l.flags) × (raised (drop l.place-index l.places) l.flags ≡ raised l.places l.fn.flags)
