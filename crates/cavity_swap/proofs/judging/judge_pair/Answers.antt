use Rattle.std.proofs.Common.{◌<◌, ◌≤◌, length, arith}
use Rattle.ma_cells.specs.Ascending.{ascending_of}
use Rattle.ma_cells.specs.Tetrahedron.{tet_cmp}
use Rattle.ma_cells.proofs.Ascents.{length-ascending_of}
use Rattle.ma_cells.proofs.CellOrders.{tet_cmp_total}
use Rattle.cavity_swap.proofs.judging.judge_pair.Goals as goal

pub unreachable-requires : goal.unreachable-requires
unreachable-requires c =
    let more : 7 < length (ascending_of tet_cmp c.args.pair.now) = c.in-None.ensures in
    let within : length (ascending_of tet_cmp c.args.pair.now) ≤ length c.args.pair.now = (length-ascending_of tet_cmp_total c.args.pair.now).0 in
    omega (arith, more, within, c.told-pair)
