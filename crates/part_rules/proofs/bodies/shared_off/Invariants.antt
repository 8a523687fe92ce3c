use Rattle.std.proofs.Common.{◌≡◌, drop, map}
use Rattle.part_rules.specs.Bodies.{first_off}
use Rattle.part_rules.proofs.bodies.shared_off.Given as goal

-- the rest has the same first one
abbrev pub invariant-loop-place : goal.invariant-loop-place
invariant-loop-place l = first_off l.exponent (map (λ s. s.place) (drop l.place-index l.shared)) ≡ first_off l.exponent (map (λ s. s.place) l.shared)
