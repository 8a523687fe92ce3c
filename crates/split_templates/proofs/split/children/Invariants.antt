use Rattle.std.proofs.Common.{◌≡◌, map, take}
use Rattle.split_templates.proofs.split.children.Given as goal

-- the tetrahedra of the cells so far
abbrev pub invariant-loop-corners : goal.invariant-loop-corners
invariant-loop-corners l = l.tets.items ≡ map (λ corners. record l.t { corners = corners }) (take l.corners-index l.cells)
