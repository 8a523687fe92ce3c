use Rattle.std.proofs.Common.{◌≡◌, ◌++◌, drop}
use Rattle.std.specs.List.{flat_map}
use Rattle.pass_rules.specs.Passes.{changed_by}
use Rattle.mesh_passes.proofs.marks.changed.Given as goal

-- those so far, and what is left of the other marks
abbrev pub invariant-loop-mark : goal.invariant-loop-mark
invariant-loop-mark l = l.changed.items ++ flat_map (changed_by l.ops) (drop l.mark-index l.marks) ≡ flat_map (changed_by l.ops) l.marks
