use Rattle.std.proofs.Common.{◌∙◌, ap}
use Rattle.ma_cells.specs.Ascending.{has}
use Rattle.ma_cells.proofs.Searches.{searched_is}
use Rattle.ma_cells.proofs.ascending.Ascending.contains.Goals as goal

pub returns : goal.returns
returns g c =
    c.is_ok.ensures.value
    ∙ searched_is g.met.T.Ord.total c.args.item.now c.as_slice.result.now c.binary_search.result c.as_slice.ensures.rises c.binary_search.ensures.bound c.binary_search.ensures.position
    ∙ ap (has g.T.Ord.cmp c.args.item.now) c.as_slice.ensures.items
