use Rattle.std.proofs.Common.{◌≡◌, ◌++◌, drop}
use Rattle.std.specs.List.{flat_map}
use Rattle.pass_rules.specs.Passes.{filling}
use Rattle.mesh_passes.proofs.cavities.push_fillings.Given as goal

-- those so far, and those of the operations that are left
abbrev pub invariant-loop-op : goal.invariant-loop-op
invariant-loop-op l = l.into.items ++ flat_map (filling l.tets) (drop l.op-index l.ops) ≡ l.fn.into.items ++ flat_map (filling l.tets) l.ops
