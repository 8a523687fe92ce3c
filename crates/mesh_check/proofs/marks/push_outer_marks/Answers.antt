use Rattle.std.proofs.Common.{◌∙◌, ◌++◌, ap, pos}
use Rattle.std.specs.List.{filter_map}
use Rattle.ma_cells.specs.Cells.{mark_on}
use Rattle.mesh_check.proofs.Marking.{on_ok, outer-is}
use Rattle.mesh_check.proofs.marks.push_outer_marks.Goals as goal

pub returns : goal.returns
returns c =
    on_ok c.push_side_marks.result c.push_side_marks.ensures (λ is test.
    outer-is test c.in_ok-sides.sides.items c.in_ok-outer.outer.items c.args.marks.now.items c.push_side_marks.new.marks.items c.args.tets.now c.in_ok-sides.ensures c.in_ok-outer.ensures
    (is ∙ ap (λ outer. c.args.marks.now.items ++ filter_map (λ side. mark_on side.0 (pos 0) (pos 0)) outer) c.as_slice.ensures.value))
