use Rattle.std.proofs.Common.{◌≡◌, drop}
use Rattle.part_rules.specs.Bodies.{first_off, operation_places}
use Rattle.part_rules.proofs.bodies.operation_off.Given as goal

-- the rest has the same first one
abbrev pub invariant-loop-op : goal.invariant-loop-op
invariant-loop-op l = first_off l.exponent (operation_places (drop l.op-index l.ops)) ≡ first_off l.exponent (operation_places l.ops)
