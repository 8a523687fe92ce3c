use Rattle.std.proofs.Common.{◌≡◌, ◌++◌, None, map, take}
use Rattle.msh_write.proofs.members.add_own.Given as goal

abbrev pub invariant-loop-tet : goal.invariant-loop-tet
invariant-loop-tet l = l.members.items ≡ l.fn.members.items ++ map (λ tet. (tet, None)) (take l.tet-index l.own)
