use Rattle.std.proofs.Common.{◌≡◌, ◌++◌, drop}
use Rattle.std.specs.List.{flat_map}
use Rattle.ma_cells.specs.Ascending.{ascending_of}
use Rattle.ma_cells.specs.Cells.{mark_cmp}
use Rattle.pass_rules.specs.Passes.{filling}
use Rattle.part_gather.specs.Gathering.{marks_by}
use Rattle.part_gather.proofs.filling.filled.Given as goal

-- those so far, and those of the operations that are left. The marks are added as a set for each operation
abbrev pub invariant-loop-op : goal.invariant-loop-op
invariant-loop-op l = record {
  tets : l.new_tets.items ++ flat_map (filling l.tets) (drop l.op-index l.won) ≡ flat_map (filling l.tets) l.won;
  marks : ascending_of mark_cmp (l.new_marks.items ++ flat_map (marks_by l.tets l.marks) (drop l.op-index l.won)) ≡ ascending_of mark_cmp (flat_map (marks_by l.tets l.marks) l.won);
}
