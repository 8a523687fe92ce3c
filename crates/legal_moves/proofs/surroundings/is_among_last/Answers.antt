use Rattle.std.proofs.Common.{ap, sym, ◌∙◌}
use Rattle.ma_geom.specs.Coordinates.{place_cmp}
use Rattle.ma_cells.specs.Ascending.{has}
use Rattle.corner_tables.proofs.Tables.{all_of_rest}
use Rattle.legal_moves.proofs.Joined.{among_last}
use Rattle.legal_moves.proofs.surroundings.is_among_last.Goals as goal

pub returns : goal.returns
returns c found =
    let places = c.args.places.now in
    let from = c.saturating_sub.result in
    among_last c.args.place places from (ap (has place_cmp c.args.place) (sym (all_of_rest places from)) ∙ sym c.is_among.ensures ∙ found)
