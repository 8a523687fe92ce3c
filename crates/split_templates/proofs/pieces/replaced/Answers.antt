use Rattle.std.proofs.Common.{◌≡◌, ◌∙◌, cond, length, sym, ap, arith}
use Rattle.std.specs.Prelude.{map}
use Rattle.std.specs.Ordering.{eq_by_cmp}
use Rattle.ma_geom.specs.Coordinates.{Coordinates, place_cmp}
use Rattle.ma_cells.specs.Ascending.{ascending_of}
use Rattle.split_templates.proofs.Replaced.{sorted_is}
use Rattle.split_templates.proofs.pieces.replaced.Goals as goal

pub returns : goal.returns
returns g c =
    let f = λ (p : Coordinates). cond (eq_by_cmp place_cmp c.args.old p) c.args.new p in
    let is : c.replace_all.new.places ≡ map f c.args.corners = c.replace_all.ensures in
    let count : length c.replace_all.new.places ≡ g.row.N = omega arith in
    let whole : length (ascending_of place_cmp c.replace_all.new.places) ≡ length c.replace_all.new.places = ap (λ places. length (ascending_of place_cmp places)) is ∙ c.requires ∙ sym count in
    sorted_is c.replace_all.new.places c.sort_unstable.new.self whole c.sort_unstable.ensures.permutation c.sort_unstable.ensures.sorted
    ∙ ap (ascending_of place_cmp) is
