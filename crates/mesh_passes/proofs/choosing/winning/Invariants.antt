use Rattle.std.proofs.Common.{◌≡◌, filter, map, take}
use Rattle.pass_rules.specs.Choosing.{is_taken, wins}
use Rattle.mesh_passes.proofs.choosing.winning.Given as goal

abbrev pub invariant-loop-op : goal.invariant-loop-op
invariant-loop-op l = record {
  won : l.won.items ≡ filter (wins l.ops l.tets) (take l.op-index l.ops);
  taken : l.taken ≡ map (is_taken (take l.op-index l.ops)) l.tets;
}
