use Rattle.std.proofs.Common.{◌≡◌, true, rules, ap, ◌∙◌}
use Rattle.std.specs.List.{AllByRecursion, flat_map}
use Rattle.ma_cells.specs.Ascending.{ascending_of}
use Rattle.ma_cells.specs.Cells.{CellMark, is_cell, mark_cmp}
use Rattle.ma_cells.specs.declared.cell.Cell.{Cell}
use Rattle.part_store.specs.Agreement.{marks_of}
use Rattle.part_gather.proofs.Found.{found_is, rises_here}
use Rattle.part_gather.proofs.marks.marks_on.Goals as goal

pub returns : goal.returns
returns c =
    let marks = c.args.marks.now in
    let are : AllByRecursion (λ (m : CellMark). is_cell m.cell ≡ true) marks = search rules in
    let found : c.in_ok-found.found.items ≡ flat_map (λ (cell : Cell). marks_of cell marks) c.cell_set-cells.result = search rules in
    c.mark_set.ensures ∙ ap (ascending_of mark_cmp) found
    ∙ found_is c.args.tets.now marks c.in_ok-cells_of.field-0.items c.cell_set-cells.result are c.cell_set-cells.ensures c.in_ok-cells_of.ensures (rises_here marks (search rules))
