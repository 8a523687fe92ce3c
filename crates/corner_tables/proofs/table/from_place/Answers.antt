use Rattle.std.proofs.Common.{rules, ◌∙◌}
use Rattle.std.specs.Ordering.{is_lt}
use Rattle.std.proofs.lemmas.List.Sorted.{IsPartitionPoint-from_clause}
use Rattle.ma_geom.specs.Coordinates.{place_cmp}
use Rattle.corner_tables.proofs.Tables.{all_of_rest, cut, cut_below}
use Rattle.corner_tables.proofs.table.from_place.Goals as goal

pub returns : goal.returns
returns c =
    let corners = c.args.corners.now in
    let start = c.partition_point-start.result in
    let point = IsPartitionPoint-from_clause (λ d. is_lt (place_cmp d.place c.args.place)) corners start c.partition_point-start.ensures.partitioned (cut_below c.args.place corners c.requires) (λ a r f' k. search rules) in
    all_of_rest corners start ∙ (cut _ corners start c.partition_point-start.ensures.bound point).1
