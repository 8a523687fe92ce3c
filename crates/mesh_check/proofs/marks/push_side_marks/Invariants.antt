use Rattle.std.proofs.Common.{◌≡◌, ◌++◌, take, pos}
use Rattle.std.specs.List.{filter_map}
use Rattle.ma_cells.specs.Cells.{mark_on}
use Rattle.mesh_check.proofs.marks.push_side_marks.Given as goal

abbrev pub invariant-loop-side : goal.invariant-loop-side
invariant-loop-side l = l.marks.items ≡ l.initial.marks.items ++ filter_map (λ side. mark_on side.0 (pos 0) (pos 0)) (take l.side-index l.sides)
