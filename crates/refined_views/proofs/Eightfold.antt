-- A refined labelled mesh has at most eight times as many tetrahedra.
use Rattle.std.proofs.Common.{◌≡◌, ℕ, ◌*◌, ◌≤◌, true, List, [], ◌∷◌, length, length-append, subst, ◌∙◌, arith}
use Rattle.std.specs.Prelude.{map}
use Rattle.std.specs.Cmp.Lexicographic.{lists_total}
use Rattle.std.specs.List.{AllByRecursion, flat_map}
use Rattle.std.proofs.lemmas.List.{length-map}
use Rattle.ma_geom.specs.Coordinates.{Coordinates}
use Rattle.ma_geom.proofs.PlaceOrder.{place_cmp_total}
use Rattle.ma_cells.specs.Ascending.{ascending_of}
use Rattle.ma_cells.specs.Faces.{edges_of}
use Rattle.ma_cells.specs.Tetrahedron.{Tetrahedron, are_corners}
use Rattle.ma_cells.proofs.Ascents.{length-ascending_of}
use Rattle.ma_cells.proofs.CellOrders.{ghost_cmp_total}
use Rattle.size_marks.specs.Field.{Field}
use Rattle.split_templates.specs.Edges.{edge_cmp, is_long_edge, mask_of}
use Rattle.split_templates.specs.Pieces.{bisected_along, pieces_of}
use Rattle.split_templates.proofs.Corners.{tetrahedron_count}
use Rattle.split_templates.proofs.Masks.{chosen-mask_of}
use Rattle.refinement.specs.Refinement.{long_edges, refined_tet}
use Rattle.refinement.proofs.Covered.{IsNotFlat}
use Rattle.part_store.specs.Labelled.{tet_of}
use Rattle.part_store.proofs.Members.{all-in, all-from_in, in-map}
use Rattle.refined_views.specs.Laws.{RefinedIsAtMostEightfold}
use Rattle.refined_views.specs.Refined.{refined_entry}
use Rattle.refined_views.proofs.RefinedMesh.{tets_not_flat}

module _ (field : Field) where
  few_pieces : (corners : List Coordinates) → are_corners corners ≡ true → length (pieces_of (long_edges field corners) corners) ≤ 8
  few_pieces corners are =
      let mask = mask_of (is_long_edge field) (edges_of corners) in
      let listed = bisected_along (ascending_of edge_cmp (long_edges field corners)) (corners ∷ []) in
      let few : length listed ≤ 8 =
      subst (λ edges. length (bisected_along (ascending_of edge_cmp edges) (corners ∷ [])) ≤ 8) (chosen-mask_of (is_long_edge field) (edges_of corners)) (tetrahedron_count mask corners are) in
      let set = (length-ascending_of (lists_total place_cmp_total) listed).0 in
      omega arith

  few_entries : (es : List (Tetrahedron × ℕ)) → AllByRecursion (λ e. IsNotFlat (tet_of e)) es → length (flat_map (refined_entry field) es) ≤ 8 * length es
  few_entries [] are = omega arith
  few_entries (e ∷ es) are =
      let parts = pieces_of (long_edges field e.0.corners) e.0.corners in
      let few : length parts ≤ 8 = few_pieces e.0.corners are.0 in
      let first : length (refined_entry field e) ≡ length parts = length-map (refined_tet field e.0) (λ tet. (tet, e.1)) ∙ length-map parts (λ corners. record e.0 { corners = corners }) in
      let all = length-append (refined_entry field e) (flat_map (refined_entry field) es) in
      let rest = few_entries es are.1 in
      omega arith

pub refined_is_at_most_eightfold : RefinedIsAtMostEightfold
refined_is_at_most_eightfold field mesh solid =
    let are = all-from_in (λ e. IsNotFlat (tet_of e)) mesh.tets (λ e h. all-in IsNotFlat (map tet_of mesh.tets) (tet_of e) (tets_not_flat mesh solid) (in-map tet_of mesh.tets e h)) in
    let few = few_entries field mesh.tets are in
    let set = (length-ascending_of ghost_cmp_total (flat_map (refined_entry field) mesh.tets)).0 in
    omega arith
