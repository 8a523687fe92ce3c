use Rattle.std.proofs.Common.{◌≡◌, drop}
use Rattle.part_rules.specs.Bodies.{first_off, mark_places}
use Rattle.part_rules.proofs.bodies.mark_off.Given as goal

-- the rest has the same first one
abbrev pub invariant-loop-mark : goal.invariant-loop-mark
invariant-loop-mark l = first_off l.exponent (mark_places (drop l.mark-index l.marks)) ≡ first_off l.exponent (mark_places l.marks)
