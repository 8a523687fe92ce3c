use Rattle.std.proofs.Common.{◌≡◌, length, ap, ◌∙◌, arith}
use Rattle.ma_cells.specs.Ascending.{ascending_of}
use Rattle.split_templates.specs.Edges.{chosen, edge_cmp}
use Rattle.split_templates.proofs.Cut.{ends_of, gathered_all, kept_by_all, room_for_all}
use Rattle.split_templates.proofs.Ranked.{ends_in_order}
use Rattle.split_templates.proofs.Shapes.{edges_of_segment, in_turn, segment_count, segment_kept}
use Rattle.split_templates.proofs.split.split_seg.Goals as goal

pub cut_seg-requires-clause-kept : goal.cut_seg-requires-clause-kept
cut_seg-requires-clause-kept c =
    let two : length c.args.s ≡ 2 = omega arith in
    let marked = in_turn c.args.mask c.args.s in
    let same : ends_of c.as_slice.result.now ≡ marked
    = ends_in_order _ _ _ c.as_slice.ensures.value c.in_order.ensures.value ∙ ap (λ es. ascending_of edge_cmp (chosen c.args.mask es)) (edges_of_segment c.args.s two) in
    kept_by_all _ marked c.args.s same (segment_kept c.args.mask c.args.s (c.requires, two))

pub cut_seg-requires-clause-room : goal.cut_seg-requires-clause-room
cut_seg-requires-clause-room c =
    let two : length c.args.s ≡ 2 = omega arith in
    let marked = in_turn c.args.mask c.args.s in
    let same : ends_of c.as_slice.result.now ≡ marked
    = ends_in_order _ _ _ c.as_slice.ensures.value c.in_order.ensures.value ∙ ap (λ es. ascending_of edge_cmp (chosen c.args.mask es)) (edges_of_segment c.args.s two) in
    room_for_all _ marked c.args.s same _ 2 c.new-pieces.ensures (segment_count c.args.mask c.args.s (c.requires, two))

pub returns : goal.returns
returns c =
    let two : length c.args.s ≡ 2 = omega arith in
    let marked = in_turn c.args.mask c.args.s in
    let same : ends_of c.as_slice.result.now ≡ marked
    = ends_in_order _ _ _ c.as_slice.ensures.value c.in_order.ensures.value ∙ ap (λ es. ascending_of edge_cmp (chosen c.args.mask es)) (edges_of_segment c.args.s two) in
    gathered_all _ marked c.args.s same _ _ c.new-pieces.ensures c.cut_seg.ensures
