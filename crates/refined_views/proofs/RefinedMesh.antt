-- A labelled mesh of tetrahedra, none of them flat, is one once it is refined.
use Rattle.std.proofs.Common.{◌≡◌, ℕ, suc, ◌<◌, true}
use Rattle.std.specs.Prelude.{map}
use Rattle.std.specs.List.{AllByRecursion, flat_map, list_all}
use Rattle.std.proofs.lemmas.Bool.{and_from, and_parts}
use Rattle.ma_cells.specs.Ascending.{ascending_of}
use Rattle.ma_cells.specs.Cells.{is_cell}
use Rattle.ma_cells.specs.Grid.{are_on_grid, is_on_grid, marks_are_on_grid}
use Rattle.ma_cells.specs.Incidence.{is_on}
use Rattle.ma_cells.specs.Tetrahedron.{Tetrahedron, are_corners, are_tetrahedra, tet_cmp}
use Rattle.ma_cells.specs.declared.batch.Batch.{Batch}
use Rattle.ma_cells.proofs.Ascents.{sorted-ascending_of}
use Rattle.ma_cells.proofs.CellOrders.{ghost_cmp_total, mark_cmp_total, tet_cmp_total, tet_cmp-IsAntisymmetric}
use Rattle.ma_cells.proofs.Passing.{all_pass, test_all}
use Rattle.refinement.specs.Refinement.{refine, refined_mark, refined_tet}
use Rattle.refinement.proofs.Covered.{IsNotFlat}
use Rattle.refinement.proofs.Gridded.{refinement_halves_the_grid}
use Rattle.refinement.proofs.NotFlat.{refined_tet_is_not_flat}
use Rattle.part_store.specs.Labelled.{LabelledMesh, label_of, own_of, tet_of}
use Rattle.part_store.proofs.Agreeing.{from-own}
use Rattle.part_store.proofs.Members.{all-in, all-from_in, in-map, in-flat_map, from-flat_map, in-ascending_of, from-ascending_of, same_made}
use Rattle.view_laws.proofs.MeshItems.{is-cell, label-below, on-more}
use Rattle.refined_views.specs.Laws.{RefinedHalvesTheGrid, RefinedIsLabelled, RefinedIsNotFlat, RefinedIsRefinement}
use Rattle.refined_views.specs.Refined.{refined_entry, refined_labelled}
use Rattle.refined_views.proofs.PieceMarks.{from-mark_pieces, from-pieces, in-pieces, piece-is-cell, piece-on, pieces}
use Rattle.refined_views.proofs.RefinedItems.{from-all, from-refined, in-all}

-- ---- labels taken off
pub refined_is_refinement : RefinedIsRefinement
refined_is_refinement field mesh =
    let before = map tet_of mesh.tets in
    let after = map tet_of (refined_labelled field mesh).tets in
    let set = ascending_of tet_cmp before in
    let tets : ascending_of tet_cmp after ≡ pieces field set =
    same_made tet_cmp_total tet_cmp-IsAntisymmetric after (flat_map (refined_tet field) set)
    (λ u h. let t = from-pieces field before u (from-all field mesh u h) in in-flat_map (refined_tet field) set t.0 u (in-ascending_of tet_cmp_total tet_cmp-IsAntisymmetric before t.0 t.1) t.2)
    (λ u h. let t = from-flat_map (refined_tet field) set u h in in-all field mesh u (in-pieces field before t.0 u (from-ascending_of tet_cmp_total tet_cmp-IsAntisymmetric before t.0 t.1) t.2)) in
    λ i. record { tets = tets i; marks = (refined_labelled field mesh).marks }

-- ---- no tetrahedron is flat
pub tets_not_flat : (mesh : LabelledMesh) → are_tetrahedra (map tet_of mesh.tets) ≡ true → AllByRecursion IsNotFlat (map tet_of mesh.tets)
tets_not_flat mesh solid = all_pass (λ tet. are_corners tet.corners) (map tet_of mesh.tets) solid

-- nor is one of a part
pub own_not_flat : (mesh : LabelledMesh) → are_tetrahedra (map tet_of mesh.tets) ≡ true → (p : ℕ) → AllByRecursion IsNotFlat (own_of mesh p)
own_not_flat mesh solid p = all-from_in IsNotFlat (own_of mesh p) (λ t h. all-in IsNotFlat (map tet_of mesh.tets) t (tets_not_flat mesh solid) (in-map tet_of mesh.tets (t, p) (from-own mesh p t h)))

pub refined_is_not_flat : RefinedIsNotFlat
refined_is_not_flat field mesh solid =
    let before = map tet_of mesh.tets in
    let after = map tet_of (refined_labelled field mesh).tets in
    test_all (λ tet. are_corners tet.corners) after (all-from_in IsNotFlat after (λ u h.
    let t = from-pieces field before u (from-all field mesh u h) in
    all-in IsNotFlat (refined_tet field t.0) u (refined_tet_is_not_flat field t.0 (all-in IsNotFlat before t.0 (tets_not_flat mesh solid) t.1)) t.2))

-- ---- labels, and marks on cells
pub refined_is_labelled : RefinedIsLabelled
refined_is_labelled field parts mesh right solid =
    let new = refined_labelled field mesh in
    let before = map tet_of mesh.tets in
    record {
      tets = sorted-ascending_of ghost_cmp_total (flat_map (refined_entry field) mesh.tets);
      marks = sorted-ascending_of mark_cmp_total (flat_map (refined_mark field) mesh.marks);
      labels = all-from_in (λ e. label_of e < parts) new.tets (λ e h. let t = from-refined field mesh e h in label-below parts mesh right (t.0, e.1) t.1);
      cells = all-from_in (λ mark. is_cell mark.cell ≡ true) new.marks (λ n h. let m = from-mark_pieces field mesh.marks n h in piece-is-cell field m.0 n (is-cell parts mesh right m.0 m.1) m.2);
      on_cells = all-from_in (λ mark. is_on (map tet_of new.tets) mark.cell ≡ true) new.marks (λ n h.
          let m = from-mark_pieces field mesh.marks n h in
          let on = all-in (λ mark. is_on before mark.cell ≡ true) mesh.marks m.0 right.on_cells m.1 in
          on-more (pieces field before) (map tet_of new.tets) n.cell (in-all field mesh) (piece-on field before m.0 n (tets_not_flat mesh solid) (is-cell parts mesh right m.0 m.1) on m.2));
    }

-- ---- the grid
pub refined_halves_the_grid : RefinedHalvesTheGrid
refined_halves_the_grid k field mesh tets marks =
    let whole : Batch = record { tets = map tet_of mesh.tets; marks = mesh.marks } in
    let new = refined_labelled field mesh in
    let after = map tet_of new.tets in
    let halved = refinement_halves_the_grid k field whole (and_from (are_on_grid (suc k) whole.tets) (marks_are_on_grid (suc k) whole.marks) tets marks) in
    let both = and_parts (are_on_grid k (refine field whole).tets) (marks_are_on_grid k (refine field whole).marks) halved in
    let on_grid = λ (tet : Tetrahedron). list_all (is_on_grid k) tet.corners in
    (test_all on_grid after (all-from_in (λ tet. on_grid tet ≡ true) after (λ u h. all-in (λ tet. on_grid tet ≡ true) (refine field whole).tets u (all_pass on_grid (refine field whole).tets both.0) (from-all field mesh u h))), both.1)
