-- A refined mesh has no flat tetrahedron.
use Rattle.std.proofs.Common.{◌≡◌, true, List, subst, ◌∙◌}
use Rattle.std.specs.List.{AllByRecursion, flat_map, list_all}
use Rattle.std.proofs.lemmas.List.Folds.{list_all-map}
use Rattle.ma_geom.specs.Coordinates.{Coordinates}
use Rattle.ma_cells.specs.Ascending.{ascending_of}
use Rattle.ma_cells.specs.Faces.{edges_of}
use Rattle.ma_cells.specs.Tetrahedron.{Tetrahedron, are_corners, tet_cmp}
use Rattle.size_marks.specs.Field.{Field}
use Rattle.split_templates.specs.Edges.{is_long_edge, mask_of}
use Rattle.split_templates.specs.Pieces.{pieces_of}
use Rattle.split_templates.proofs.Masks.{chosen-mask_of}
use Rattle.split_templates.proofs.Tetrahedra.{all_are_corners}
use Rattle.refinement.specs.Laws.{RefinementIsNotFlat}
use Rattle.refinement.specs.Refinement.{long_edges, refined_tet}
use Rattle.ma_cells.proofs.Passing.{all-flat_map, all_pass, test_all}
use Rattle.ma_cells.proofs.SetItems.{all-ascending_of}

pub pieces_are_corners : (field : Field) (corners : List Coordinates) → are_corners corners ≡ true → list_all are_corners (pieces_of (long_edges field corners) corners) ≡ true
pieces_are_corners field corners h =
    subst (λ edges. list_all are_corners (pieces_of edges corners) ≡ true) (chosen-mask_of (is_long_edge field) (edges_of corners))
    (all_are_corners (mask_of (is_long_edge field) (edges_of corners)) corners h)

abbrev is_tetrahedron : Tetrahedron → Type 0
is_tetrahedron tet = are_corners tet.corners ≡ true

pub refined_tet_is_not_flat : (field : Field) (tet : Tetrahedron) → are_corners tet.corners ≡ true → AllByRecursion (λ piece. are_corners piece.corners ≡ true) (refined_tet field tet)
refined_tet_is_not_flat field tet h =
    let pieces = pieces_of (long_edges field tet.corners) tet.corners in
    all_pass (λ piece. are_corners piece.corners) (refined_tet field tet)
    (list_all-map (λ piece. are_corners piece.corners) (λ corners. record tet { corners = corners }) pieces ∙ pieces_are_corners field tet.corners h)

pub refinement_is_not_flat : RefinementIsNotFlat
refinement_is_not_flat field mesh h =
    let pieces = flat_map (refined_tet field) mesh.tets in
    test_all (λ tet. are_corners tet.corners) (ascending_of tet_cmp pieces) (all-ascending_of tet_cmp is_tetrahedron pieces
    (all-flat_map is_tetrahedron is_tetrahedron (refined_tet field) (refined_tet_is_not_flat field) mesh.tets (all_pass (λ tet. are_corners tet.corners) mesh.tets h)))
