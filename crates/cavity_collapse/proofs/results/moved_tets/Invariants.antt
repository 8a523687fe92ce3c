use Rattle.std.proofs.Common.{◌≡◌, take}
use Rattle.cavity_collapse.proofs.Worsts.{new_tets}
use Rattle.cavity_collapse.proofs.results.moved_tets.Given as goal

abbrev pub invariant-loop-tet : goal.invariant-loop-tet
invariant-loop-tet l = l.tets.items ≡ new_tets l.a l.v (take l.tet-index l.star)
