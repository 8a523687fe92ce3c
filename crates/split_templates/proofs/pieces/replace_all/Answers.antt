use Rattle.std.proofs.Common.{◌<◌, ◌∙◌, cond, length, slice_set, sym, ap, arith}
use Rattle.std.specs.Ordering.{eq_by_cmp}
use Rattle.std.proofs.lemmas.List.Edits.{map_over_more}
use Rattle.ma_geom.specs.Coordinates.{Coordinates, place_cmp}
use Rattle.split_templates.proofs.pieces.replace_all.Goals as goal

pub loop-place-preserved : goal.loop-place-preserved
loop-place-preserved c =
    let f = λ (p : Coordinates). cond (eq_by_cmp place_cmp c.args.old p) c.args.new p in
    let within : c.loop-place.place-index < length c.args.places.now = omega arith in
    ap (λ x. slice_set c.loop-place.places c.loop-place.place-index x) (c.new_corner.ensures ∙ ap f (sym c.place-item.is))
    ∙ map_over_more f c.args.places.now c.loop-place.places c.loop-place.place-index c.place-item.result within c.loop-place.invariant c.place-item.is
