use Rattle.std.proofs.Common.{◌≡◌, drop}
use Rattle.part_rules.specs.Bodies.{first_off}
use Rattle.part_rules.proofs.bodies.place_off.Given as goal

-- the rest has the same first one
abbrev pub invariant-loop-place : goal.invariant-loop-place
invariant-loop-place l = first_off l.exponent (drop l.place-index l.places) ≡ first_off l.exponent l.places
