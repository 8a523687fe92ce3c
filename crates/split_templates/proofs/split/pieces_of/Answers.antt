use Rattle.std.proofs.Common.{◌≡◌, sym, ap, ◌∙◌}
use Rattle.std.specs.List.{list_all}
use Rattle.ma_cells.specs.Ascending.{ascending_of}
use Rattle.ma_cells.specs.Faces.{edges_of}
use Rattle.ma_cells.specs.Tetrahedron.{are_corners}
use Rattle.split_templates.specs.Edges.{chosen, edge_cmp}
use Rattle.split_templates.specs.Pieces.{pieces_of}
use Rattle.split_templates.proofs.Corners.{tetrahedron_count, tetrahedron_kept}
use Rattle.split_templates.proofs.Cut.{ends_of, gathered_all, kept_by_all, room_for_all}
use Rattle.split_templates.proofs.Ranked.{ends_in_order}
use Rattle.split_templates.proofs.Shapes.{in_turn}
use Rattle.split_templates.proofs.Tetrahedra.{all_are_corners}
use Rattle.split_templates.proofs.split.pieces_of.Goals as goal

pub cut_tet-requires-clause-kept : goal.cut_tet-requires-clause-kept
cut_tet-requires-clause-kept c =
    let corners = c.corners.result in
    let marked = in_turn c.args.mask corners in
    let same : ends_of c.as_slice.result.now ≡ marked
    = ends_in_order _ _ _ c.as_slice.ensures.value c.in_order.ensures.value ∙ ap (λ es. ascending_of edge_cmp (chosen c.args.mask es)) (c.edges.ensures.value ∙ sym (ap edges_of c.corners.ensures.value)) in
    kept_by_all _ marked corners same (tetrahedron_kept c.args.mask corners c.corners.ensures.corners)

pub cut_tet-requires-clause-room : goal.cut_tet-requires-clause-room
cut_tet-requires-clause-room c =
    let corners = c.corners.result in
    let marked = in_turn c.args.mask corners in
    let same : ends_of c.as_slice.result.now ≡ marked
    = ends_in_order _ _ _ c.as_slice.ensures.value c.in_order.ensures.value ∙ ap (λ es. ascending_of edge_cmp (chosen c.args.mask es)) (c.edges.ensures.value ∙ sym (ap edges_of c.corners.ensures.value)) in
    room_for_all _ marked corners same _ 8 c.new-pieces.ensures (tetrahedron_count c.args.mask corners c.corners.ensures.corners)

pub returns-clause-value : goal.returns-clause-value
returns-clause-value c =
    let corners = c.corners.result in
    let marked = in_turn c.args.mask corners in
    let same : ends_of c.as_slice.result.now ≡ marked
    = ends_in_order _ _ _ c.as_slice.ensures.value c.in_order.ensures.value ∙ ap (λ es. ascending_of edge_cmp (chosen c.args.mask es)) (c.edges.ensures.value ∙ sym (ap edges_of c.corners.ensures.value)) in
    gathered_all _ marked corners same _ _ c.new-pieces.ensures c.cut_tet.ensures
    ∙ ap (λ places. pieces_of (chosen c.args.mask (edges_of places)) places) c.corners.ensures.value

pub returns-clause-corners : goal.returns-clause-corners
returns-clause-corners c =
    let corners = c.corners.result in
    let marked = in_turn c.args.mask corners in
    let same : ends_of c.as_slice.result.now ≡ marked
    = ends_in_order _ _ _ c.as_slice.ensures.value c.in_order.ensures.value ∙ ap (λ es. ascending_of edge_cmp (chosen c.args.mask es)) (c.edges.ensures.value ∙ sym (ap edges_of c.corners.ensures.value)) in
    let all = all_are_corners c.args.mask corners c.corners.ensures.corners in
    ap (list_all are_corners) (gathered_all _ marked corners same _ _ c.new-pieces.ensures c.cut_tet.ensures) ∙ all
