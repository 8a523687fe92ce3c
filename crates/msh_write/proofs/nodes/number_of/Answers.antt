use Rattle.std.proofs.Common.{Err, sym}
use Rattle.ma_geom.proofs.PlaceOrder.{place_cmp_total}
use Rattle.ma_cells.proofs.Searches.{searched_is}
use Rattle.msh_write.proofs.Numbering.{number_among-at, number_behind}
use Rattle.msh_write.proofs.nodes.number_of.Goals as goal

pub returns-in-Ok : goal.returns-in-Ok
returns-in-Ok c = number_among-at _ _ _ c.requires c.in-Ok.ensures.bound c.in-Ok.ensures.ok

pub returns-in-Err : goal.returns-in-Err
returns-in-Err c =
    number_behind c.args.nodes.now c.args.node
    (sym (searched_is place_cmp_total c.args.node c.args.nodes.now (Err c.in-Err.field-0) c.requires c.in-Err.ensures.bound c.in-Err.ensures.position))
