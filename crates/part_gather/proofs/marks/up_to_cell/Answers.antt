use Rattle.std.proofs.Common.{rules}
use Rattle.std.proofs.lemmas.List.Sorted.{IsPartitionPoint-from_clause}
use Rattle.corner_tables.proofs.Tables.{cut}
use Rattle.part_gather.proofs.OnCell.{cut_above, not_above}
use Rattle.part_gather.proofs.marks.up_to_cell.Goals as goal

pub returns : goal.returns
returns c =
    let marks = c.args.marks.now in
    let end = c.partition_point-end.result in
    let point = IsPartitionPoint-from_clause (not_above c.args.cell.now) marks end c.partition_point-end.ensures.partitioned (cut_above c.args.cell.now marks c.requires) (λ a r f' k. search rules) in
    (cut _ marks end c.partition_point-end.ensures.bound point).0
