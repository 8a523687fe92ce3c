use Rattle.std.proofs.Common.{rules, ◌≡◌, length, [], ◌∷◌, sym, ap, ◌∙◌, get_or, arith}
use Rattle.split_templates.proofs.Cut.{IsStep, ends_of, first_ends, rest_of, room_for_one, room_for_other, step_end, step_kept, whole_kept, whole_pieces}
use Rattle.split_templates.proofs.pieces.+cut_tet.Goals as goal

pub cut_tet-requires : goal.cut_tet-requires
cut_tet-requires t c = (
  search rules,
  let ends = c.first-item.result.ends in
      let two : length ends ≡ 2 = omega arith in
      let a = get_or ends 0 c.index-first-0.result in
      let b = get_or ends 1 c.index-first-1.result in
      let step : IsStep (ends_of c.args.edges.now) (a ∷ b ∷ []) (ends_of (rest_of c.args.edges.now)) c.args.corners c.replaced-one.result c.replaced-other.result = record {
        whole = first_ends c.args.edges.now c.first-item.result c.index-first-0.result c.index-first-1.result c.in-len1-up.len_at_least c.first-item.is two;
        split = c.in-Some.ensures ∙ (λ i. sym c.replaced-one.ensures i ∷ sym c.replaced-other.ensures i ∷ []);
      } in
      ((step_kept _ _ _ _ _ _ step c.requires.kept).1.rest, room_for_other _ _ _ _ _ _ step c.args.pieces.now.items 8 c.requires.room),
)

pub cut_tet-requires-in-Some : goal.cut_tet-requires-in-Some
cut_tet-requires-in-Some t c = (
  search rules,
  let ends = c.first-item.result.ends in
      let two : length ends ≡ 2 = omega arith in
      let a = get_or ends 0 c.index-first-0.result in
      let b = get_or ends 1 c.index-first-1.result in
      let step : IsStep (ends_of c.args.edges.now) (a ∷ b ∷ []) (ends_of (rest_of c.args.edges.now)) c.args.corners c.replaced-one.result c.replaced-other.result = record {
        whole = first_ends c.args.edges.now c.first-item.result c.index-first-0.result c.index-first-1.result c.in-len1-up.len_at_least c.first-item.is two;
        split = c.in-Some.ensures ∙ (λ i. sym c.replaced-one.ensures i ∷ sym c.replaced-other.ensures i ∷ []);
      } in
      ((step_kept _ _ _ _ _ _ step c.requires.kept).0.rest, room_for_one _ _ _ _ _ _ step c.args.pieces.now.items c.cut_tet.new.pieces.items 8 c.requires.room c.cut_tet.ensures),
)

pub cut_tet-requires-in-None : goal.cut_tet-requires-in-None
cut_tet-requires-in-None t c = (
  search rules,
  let ends = c.first-item.result.ends in
      let two : length ends ≡ 2 = omega arith in
      let whole = first_ends c.args.edges.now c.first-item.result c.index-first-0.result c.index-first-1.result c.in-len1-up.len_at_least c.first-item.is two in
      let pieces = whole_pieces _ _ _ c.args.corners whole c.in-None.ensures in
      (whole_kept _ _ _ c.args.corners whole c.in-None.ensures c.requires.kept, omega (arith, ap length pieces, c.requires.room)),
)

pub returns-in-Some : goal.returns-in-Some
returns-in-Some t c =
    let ends = c.first-item.result.ends in
    let two : length ends ≡ 2 = omega arith in
    let a = get_or ends 0 c.index-first-0.result in
    let b = get_or ends 1 c.index-first-1.result in
    let step : IsStep (ends_of c.args.edges.now) (a ∷ b ∷ []) (ends_of (rest_of c.args.edges.now)) c.args.corners c.replaced-one.result c.replaced-other.result = record {
      whole = first_ends c.args.edges.now c.first-item.result c.index-first-0.result c.index-first-1.result c.in-len1-up.len_at_least c.first-item.is two;
      split = c.in-Some.ensures ∙ (λ i. sym c.replaced-one.ensures i ∷ sym c.replaced-other.ensures i ∷ []);
    } in
    step_end _ _ _ _ _ _ step c.args.pieces.now.items c.cut_tet.new.pieces.items c.cut_tet-in-Some.new.pieces.items c.cut_tet.ensures c.cut_tet-in-Some.ensures
