use Rattle.std.proofs.Common.{◌≡◌, map, take}
use Rattle.pass_rules.specs.Choosing.{is_taken}
use Rattle.mesh_passes.proofs.choosing.take_all.Given as goal

abbrev pub invariant-loop-op : goal.invariant-loop-op
invariant-loop-op l = l.taken ≡ map (is_taken (take l.op-index l.ops)) l.tets
