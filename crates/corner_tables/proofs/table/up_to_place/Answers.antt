use Rattle.std.proofs.Common.{rules}
use Rattle.std.proofs.lemmas.List.Sorted.{IsPartitionPoint-from_clause}
use Rattle.corner_tables.specs.steps.Near.{not_above}
use Rattle.corner_tables.proofs.Tables.{cut, cut_above}
use Rattle.corner_tables.proofs.table.up_to_place.Goals as goal

pub returns : goal.returns
returns c =
    let corners = c.args.corners.now in
    let end = c.partition_point-end.result in
    let point = IsPartitionPoint-from_clause (not_above c.args.place) corners end c.partition_point-end.ensures.partitioned (cut_above c.args.place corners c.requires) (λ a r f' k. search rules) in
    (cut _ corners end c.partition_point-end.ensures.bound point).0
