use Rattle.std.proofs.Common.{◌≡◌, drop}
use Rattle.part_rules.specs.Bodies.{first_off, tet_places}
use Rattle.part_rules.proofs.bodies.tet_off.Given as goal

-- the rest has the same first one
abbrev pub invariant-loop-tet : goal.invariant-loop-tet
invariant-loop-tet l = first_off l.exponent (tet_places (drop l.tet-index l.tets)) ≡ first_off l.exponent (tet_places l.tets)
