use Rattle.std.proofs.Common.{◌≡◌, rules, ap, ◌∙◌}
use Rattle.std.specs.List.{flat_map}
use Rattle.ma_cells.specs.Ascending.{ascending_of}
use Rattle.ma_cells.specs.Tetrahedron.{tet_cmp}
use Rattle.part_gather.specs.Gathering.{cavity}
use Rattle.part_gather.proofs.Changing.{taken_is}
use Rattle.part_gather.proofs.delivering.taken.Goals as goal

pub returns : goal.returns
returns c =
    let tets = c.args.tets.now in
    let ops = c.args.ops.now in
    let made : c.push_cavities.new.into.items ≡ flat_map (cavity tets) ops = search rules in
    c.tet_set.ensures ∙ ap (ascending_of tet_cmp) made ∙ taken_is tets ops (search rules)
