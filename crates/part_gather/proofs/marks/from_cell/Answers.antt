use Rattle.std.proofs.Common.{rules, ◌∙◌}
use Rattle.std.specs.Ordering.{is_lt}
use Rattle.std.proofs.lemmas.List.Sorted.{IsPartitionPoint-from_clause}
use Rattle.ma_cells.specs.Cells.{CellMark, cell_cmp}
use Rattle.corner_tables.proofs.Tables.{all_of_rest, cut}
use Rattle.part_gather.proofs.OnCell.{cut_below}
use Rattle.part_gather.proofs.marks.from_cell.Goals as goal

pub returns : goal.returns
returns c =
    let marks = c.args.marks.now in
    let start = c.partition_point-start.result in
    let point = IsPartitionPoint-from_clause (λ (m : CellMark). is_lt (cell_cmp m.cell c.args.cell.now)) marks start c.partition_point-start.ensures.partitioned (cut_below c.args.cell.now marks c.requires) (λ a r f' k. search rules) in
    all_of_rest marks start ∙ (cut _ marks start c.partition_point-start.ensures.bound point).1
