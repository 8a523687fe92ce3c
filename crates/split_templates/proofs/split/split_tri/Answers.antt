use Rattle.std.proofs.Common.{◌≡◌, ap, ◌∙◌}
use Rattle.ma_cells.specs.Ascending.{ascending_of}
use Rattle.split_templates.specs.Edges.{chosen, edge_cmp}
use Rattle.split_templates.proofs.Cut.{ends_of, gathered_all, kept_by_all, room_for_all}
use Rattle.split_templates.proofs.Ranked.{ends_in_order}
use Rattle.split_templates.proofs.Corners.{triangle_count, triangle_kept}
use Rattle.split_templates.proofs.Shapes.{in_turn}
use Rattle.split_templates.proofs.Straight.{apex}
use Rattle.split_templates.proofs.split.split_tri.Goals as goal

pub cut_tri-requires-clause-kept : goal.cut_tri-requires-clause-kept
cut_tri-requires-clause-kept c =
    let marked = in_turn c.args.mask c.args.t in
    let same : ends_of c.as_slice.result.now ≡ marked
    = ends_in_order _ _ _ c.as_slice.ensures.value c.in_order.ensures.value ∙ ap (λ es. ascending_of edge_cmp (chosen c.args.mask es)) c.tri_edges.ensures in
    kept_by_all _ marked c.args.t same (triangle_kept c.args.mask (apex c.args.t c.requires).0 c.args.t (apex c.args.t c.requires).1)

pub cut_tri-requires-clause-room : goal.cut_tri-requires-clause-room
cut_tri-requires-clause-room c =
    let marked = in_turn c.args.mask c.args.t in
    let same : ends_of c.as_slice.result.now ≡ marked
    = ends_in_order _ _ _ c.as_slice.ensures.value c.in_order.ensures.value ∙ ap (λ es. ascending_of edge_cmp (chosen c.args.mask es)) c.tri_edges.ensures in
    room_for_all _ marked c.args.t same _ 4 c.new-pieces.ensures (triangle_count c.args.mask (apex c.args.t c.requires).0 c.args.t (apex c.args.t c.requires).1)

pub returns : goal.returns
returns c =
    let marked = in_turn c.args.mask c.args.t in
    let same : ends_of c.as_slice.result.now ≡ marked
    = ends_in_order _ _ _ c.as_slice.ensures.value c.in_order.ensures.value ∙ ap (λ es. ascending_of edge_cmp (chosen c.args.mask es)) c.tri_edges.ensures in
    gathered_all _ marked c.args.t same _ _ c.new-pieces.ensures c.cut_tri.ensures
