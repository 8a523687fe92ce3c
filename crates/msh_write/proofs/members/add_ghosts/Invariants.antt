use Rattle.std.proofs.Common.{◌≡◌, ◌++◌, Some, map, take}
use Rattle.msh_write.proofs.members.add_ghosts.Given as goal

abbrev pub invariant-loop-tet : goal.invariant-loop-tet
invariant-loop-tet l = l.members.items ≡ l.fn.members.items ++ map (λ g. (g.0, Some g.1)) (take l.tet-index l.ghosts)
