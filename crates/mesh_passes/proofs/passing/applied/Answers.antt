use Rattle.std.proofs.Common.{◌++◌, not, filter, ap, ◌∙◌}
use Rattle.std.specs.List.{flat_map}
use Rattle.pass_rules.specs.Choosing.{is_taken}
use Rattle.pass_rules.specs.Passes.{changed_by, filling}
use Rattle.mesh_passes.proofs.Made.{applied_is}
use Rattle.mesh_passes.proofs.passing.applied.Goals as goal

pub returns : goal.returns
returns c =
    let ops = c.args.ops.now in
    let kept = c.in_ok-tets.ensures ∙ ap (filter (λ tet. not (is_taken ops tet))) c.as_slice.ensures.items in
    let added = c.in_ok-push_fillings.ensures ∙ (λ i. kept i ++ flat_map (filling (c.as_slice-2.ensures.items i)) ops) in
    applied_is ops c.args.mesh.now _ _ c.gather.result added (c.in_ok-marks.ensures ∙ ap (flat_map (changed_by ops)) c.as_slice-3.ensures.items) c.gather.ensures.tets c.gather.ensures.marks
