use Rattle.std.proofs.Common.{◌≡◌}
use Rattle.world_run.proofs.Beginnings.{front}
use Rattle.world_run.proofs.starting.own_tets.Given as goal

-- those of the first tetrahedra that have the label
abbrev pub invariant-loop-place : goal.invariant-loop-place
invariant-loop-place l = l.own.items ≡ front l.tets l.labels l.number l.place
