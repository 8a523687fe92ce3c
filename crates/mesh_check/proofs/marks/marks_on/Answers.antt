use Rattle.std.proofs.Common.{◌∙◌, ap, sym, length, rules}
use Rattle.std.proofs.lemmas.List.{length-map}
use Rattle.ma_cells.specs.Cells.{is_cell}
use Rattle.ma_cells.specs.Incidence.{is_on}
use Rattle.std.specs.List.{list_all}
use Rattle.mesh_check.specs.steps.FoundMarks.{kept_mark}
use Rattle.mesh_check.proofs.Marking.{are_wanted, fewer_kept, marks_kept, others_counted}
use Rattle.mesh_check.proofs.marks.marks_on.Goals as goal

pub found_on-requires-clause-cells : goal.found_on-requires-clause-cells
found_on-requires-clause-cells c =
    ap (list_all is_cell) c.as_slice-3.ensures.value
    ∙ are_wanted c.as_slice.result.now c.args.shift c.as_slice-marks.result.now c.as_slice-2.result.now c.in_ok-cells.cells.items (c.as_slice-2.ensures.value ∙ c.in_ok-moved.ensures) c.in_ok-cells.ensures.is

pub keep_found-kept-requires-clause-as_many : goal.keep_found-kept-requires-clause-as_many
keep_found-kept-requires-clause-as_many c =
    ap length (c.as_slice-5.ensures.value ∙ c.in_ok-found.ensures) ∙ length-map c.as_slice-3.result.now (is_on c.args.tets.now) ∙ ap length (c.as_slice-3.ensures.value ∙ sym c.as_slice-4.ensures.value)

pub overflow_sub-loose : goal.overflow_sub-loose
overflow_sub-loose c =
    fewer_kept (kept_mark (is_on c.args.tets.now) c.args.mesh.now.nodes.items c.args.shift) c.args.mesh.now.marks.items c.as_slice-marks.result.now c.keep_found-kept.result.items c.len.result c.as_slice-marks.ensures.value
    (marks_kept c.args.tets.now c.args.shift c.args.mesh.now.nodes.items c.as_slice.result.now c.args.mesh.now.marks.items c.as_slice-marks.result.now c.in_ok-moved.moved.items c.as_slice-2.result.now c.keep_found-kept.result.items
    c.in_ok-cells.cells.items c.as_slice-3.result.now c.as_slice-4.result.now c.in_ok-found.found.items c.as_slice-5.result.now c.as_slice.ensures.value c.as_slice-marks.ensures.value c.in_ok-moved.ensures c.as_slice-2.ensures.value
    c.in_ok-cells.ensures.is c.as_slice-3.ensures.value c.in_ok-found.ensures c.as_slice-4.ensures.value c.as_slice-5.ensures.value c.keep_found-kept.ensures)
    (c.len.ensures ∙ search rules)

pub returns-clause-marks : goal.returns-clause-marks
returns-clause-marks c =
    marks_kept c.args.tets.now c.args.shift c.args.mesh.now.nodes.items c.as_slice.result.now c.args.mesh.now.marks.items c.as_slice-marks.result.now c.in_ok-moved.moved.items c.as_slice-2.result.now c.keep_found-kept.result.items
    c.in_ok-cells.cells.items c.as_slice-3.result.now c.as_slice-4.result.now c.in_ok-found.found.items c.as_slice-5.result.now c.as_slice.ensures.value c.as_slice-marks.ensures.value c.in_ok-moved.ensures c.as_slice-2.ensures.value
    c.in_ok-cells.ensures.is c.as_slice-3.ensures.value c.in_ok-found.ensures c.as_slice-4.ensures.value c.as_slice-5.ensures.value c.keep_found-kept.ensures

pub returns-clause-loose : goal.returns-clause-loose
returns-clause-loose c =
    others_counted (kept_mark (is_on c.args.tets.now) c.args.mesh.now.nodes.items c.args.shift) c.args.mesh.now.marks.items c.as_slice-marks.result.now c.keep_found-kept.result.items c.len.result c.as_slice-marks.ensures.value
    (marks_kept c.args.tets.now c.args.shift c.args.mesh.now.nodes.items c.as_slice.result.now c.args.mesh.now.marks.items c.as_slice-marks.result.now c.in_ok-moved.moved.items c.as_slice-2.result.now c.keep_found-kept.result.items
    c.in_ok-cells.cells.items c.as_slice-3.result.now c.as_slice-4.result.now c.in_ok-found.found.items c.as_slice-5.result.now c.as_slice.ensures.value c.as_slice-marks.ensures.value c.in_ok-moved.ensures c.as_slice-2.ensures.value
    c.in_ok-cells.ensures.is c.as_slice-3.ensures.value c.in_ok-found.ensures c.as_slice-4.ensures.value c.as_slice-5.ensures.value c.keep_found-kept.ensures)
    (c.len.ensures ∙ search rules)
